use Rattle.std.proofs.Common.{refl, sym, ◌∙◌}
use Rattle.xf_types.specs.declared.call.Call.TheVariants as call
use Rattle.xf_serve.proofs.Runs.{lends, told_on_entry, policies_of_pass, states_of_pass}
use Rattle.xf_serve.specs.Served.{AreTold}
use Rattle.std.specs.Prelude.{ℕ}
use Rattle.std.proofs.Common.{subst}
use Rattle.xf_serve.proofs.Answered.{may_stay, stays_alone, served_settled}
use Rattle.xf_serve.proofs.Changed.{changed, unchanged, changed_honestly, may_move, changed_served}
use Rattle.xf_serve.proofs.Adding.{add_only}
use Rattle.xf_serve.proofs.changing.policy_add.Goals as goal

pub add_lent-pass-requires-clause-said : goal.add_lent-pass-requires-clause-said
add_lent-pass-requires-clause-said g c = (refl, refl)

pub add_lent-pass-requires-clause-lent : goal.add_lent-pass-requires-clause-lent
add_lent-pass-requires-clause-lent g c =
    lends c.args.policies c.args.states c.args.live.now c.args.pass c.enter_turn.new.pass c.requires.base c.requires.rests.0 c.requires.rests.1
    c.enter_turn.ensures.table c.enter_turn.ensures.row

pub add_lent-pass-requires-clause-told : goal.add_lent-pass-requires-clause-told
add_lent-pass-requires-clause-told g c =
    subst (λ (n : ℕ). AreTold n c.args.states c.enter_turn.new.pass.view.image.words) (policies_of_pass c.args.policies c.args.states c.args.live.now c.args.pass c.requires.base c.requires.rests.0)
    (subst (λ (n : ℕ). AreTold c.args.pass.view.life.start.policies n c.enter_turn.new.pass.view.image.words)
    (states_of_pass c.args.policies c.args.states c.args.live.now c.args.pass c.requires.base c.requires.rests.0)
    (told_on_entry c.args.pass c.enter_turn.new.pass c.enter_turn.ensures.row))

pub settle_moving-requires-clause-row : goal.settle_moving-requires-clause-row
settle_moving-requires-clause-row g c =
    may_move c.args.policies c.args.states c.args.pass c.add_lent-pass.result.0 _
    (changed c.args.policies c.args.states c.args.live.now c.args.pass c.enter_turn.new.pass c.add_lent-pass.result.0
    (record { at = c.args.at; call = call.PolicyAdd c.args.spec; reply = c.add_lent-pass.result.1 })
    c.requires.base c.requires.rests.0 c.requires.rests.1 c.enter_turn.ensures.row c.add_lent-pass.ensures.lent c.add_lent-pass.ensures.values
    (sym c.is_moving-moves.ensures ∙ c.if-moves.true) c.add_lent-pass.ensures.answer (λ m. add_only c.args.at c.args.spec c.add_lent-pass.result.1 m (sym c.is_moving-moves.ensures ∙ c.if-moves.true)))
    c.requires.spare

pub settle_moving-requires-clause-honest : goal.settle_moving-requires-clause-honest
settle_moving-requires-clause-honest g c =
    changed_honestly c.args.policies c.args.states c.args.pass c.add_lent-pass.result.0 _
    (changed c.args.policies c.args.states c.args.live.now c.args.pass c.enter_turn.new.pass c.add_lent-pass.result.0
    (record { at = c.args.at; call = call.PolicyAdd c.args.spec; reply = c.add_lent-pass.result.1 })
    c.requires.base c.requires.rests.0 c.requires.rests.1 c.enter_turn.ensures.row c.add_lent-pass.ensures.lent c.add_lent-pass.ensures.values
    (sym c.is_moving-moves.ensures ∙ c.if-moves.true) c.add_lent-pass.ensures.answer (λ m. add_only c.args.at c.args.spec c.add_lent-pass.result.1 m (sym c.is_moving-moves.ensures ∙ c.if-moves.true)))

pub settle_still-requires-clause-row : goal.settle_still-requires-clause-row
settle_still-requires-clause-row g c =
    may_stay c.args.pass c.add_lent-pass.result.0 _ c.requires.spare
    (unchanged c.args.policies c.args.states c.args.live.now c.args.pass c.enter_turn.new.pass c.add_lent-pass.result.0
    (record { at = c.args.at; call = call.PolicyAdd c.args.spec; reply = c.add_lent-pass.result.1 })
    c.requires.base c.requires.rests.0 c.requires.rests.1 c.enter_turn.ensures.row c.add_lent-pass.ensures.lent c.add_lent-pass.ensures.values
    (sym c.is_moving-moves.ensures ∙ c.if-moves.false) c.add_lent-pass.ensures.answer)

pub settle_still-requires-clause-honest : goal.settle_still-requires-clause-honest
settle_still-requires-clause-honest g c =
    stays_alone c.args.pass c.add_lent-pass.result.0 _ (λ s. refl)
    (unchanged c.args.policies c.args.states c.args.live.now c.args.pass c.enter_turn.new.pass c.add_lent-pass.result.0
    (record { at = c.args.at; call = call.PolicyAdd c.args.spec; reply = c.add_lent-pass.result.1 })
    c.requires.base c.requires.rests.0 c.requires.rests.1 c.enter_turn.ensures.row c.add_lent-pass.ensures.lent c.add_lent-pass.ensures.values
    (sym c.is_moving-moves.ensures ∙ c.if-moves.false) c.add_lent-pass.ensures.answer)

pub returns-then-moves-clause-served : goal.returns-then-moves-clause-served
returns-then-moves-clause-served g c =
    changed_served c.args.policies c.args.states c.args.pass c.add_lent-pass.result.0 _
    (changed c.args.policies c.args.states c.args.live.now c.args.pass c.enter_turn.new.pass c.add_lent-pass.result.0
    (record { at = c.args.at; call = call.PolicyAdd c.args.spec; reply = c.add_lent-pass.result.1 })
    c.requires.base c.requires.rests.0 c.requires.rests.1 c.enter_turn.ensures.row c.add_lent-pass.ensures.lent c.add_lent-pass.ensures.values
    (sym c.is_moving-moves.ensures ∙ c.if-moves.true) c.add_lent-pass.ensures.answer (λ m. add_only c.args.at c.args.spec c.add_lent-pass.result.1 m (sym c.is_moving-moves.ensures ∙ c.if-moves.true)))
    c.settle_moving.result c.settle_moving.ensures.settled

pub returns-else-moves-clause-served : goal.returns-else-moves-clause-served
returns-else-moves-clause-served g c =
    served_settled c.args.pass c.add_lent-pass.result.0 c.settle_still.result _
    (unchanged c.args.policies c.args.states c.args.live.now c.args.pass c.enter_turn.new.pass c.add_lent-pass.result.0
    (record { at = c.args.at; call = call.PolicyAdd c.args.spec; reply = c.add_lent-pass.result.1 })
    c.requires.base c.requires.rests.0 c.requires.rests.1 c.enter_turn.ensures.row c.add_lent-pass.ensures.lent c.add_lent-pass.ensures.values
    (sym c.is_moving-moves.ensures ∙ c.if-moves.false) c.add_lent-pass.ensures.answer)
    c.settle_still.ensures.settled
