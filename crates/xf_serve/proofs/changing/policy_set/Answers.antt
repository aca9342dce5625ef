use Rattle.std.proofs.Common.{refl, sym, ◌∙◌}
use Rattle.xf_types.specs.declared.call.Call.TheVariants as call
use Rattle.xf_serve.proofs.Runs.{lends}
use Rattle.xf_serve.proofs.Answered.{may_stay, stays_alone, served_settled}
use Rattle.xf_serve.proofs.Changed.{changed, unchanged, changed_honestly, may_move, changed_served, set_only}
use Rattle.xf_serve.proofs.changing.policy_set.Goals as goal

pub set_lent-pass-requires-clause-said : goal.set_lent-pass-requires-clause-said
set_lent-pass-requires-clause-said g c = (refl, refl)

pub set_lent-pass-requires-clause-lent : goal.set_lent-pass-requires-clause-lent
set_lent-pass-requires-clause-lent g c =
    lends c.args.policies c.args.states c.args.live.now c.args.pass c.enter_turn.new.pass c.requires.base c.requires.rests.0 c.requires.rests.1
    c.enter_turn.ensures.table c.enter_turn.ensures.row

pub settle_moving-requires-clause-row : goal.settle_moving-requires-clause-row
settle_moving-requires-clause-row g c =
    may_move c.args.policies c.args.states c.args.pass c.set_lent-pass.result.0 _
    (changed c.args.policies c.args.states c.args.live.now c.args.pass c.enter_turn.new.pass c.set_lent-pass.result.0
    (record { at = c.args.at; call = call.PolicySet c.args.thresholds; reply = c.set_lent-pass.result.1 })
    c.requires.base c.requires.rests.0 c.requires.rests.1 c.enter_turn.ensures.row c.set_lent-pass.ensures.lent c.set_lent-pass.ensures.values
    (sym c.is_moving-moves.ensures ∙ c.if-moves.true) c.set_lent-pass.ensures.answer (set_only c.args.at c.args.thresholds c.set_lent-pass.result.1))
    c.requires.spare

pub settle_moving-requires-clause-honest : goal.settle_moving-requires-clause-honest
settle_moving-requires-clause-honest g c =
    changed_honestly c.args.policies c.args.states c.args.pass c.set_lent-pass.result.0 _
    (changed c.args.policies c.args.states c.args.live.now c.args.pass c.enter_turn.new.pass c.set_lent-pass.result.0
    (record { at = c.args.at; call = call.PolicySet c.args.thresholds; reply = c.set_lent-pass.result.1 })
    c.requires.base c.requires.rests.0 c.requires.rests.1 c.enter_turn.ensures.row c.set_lent-pass.ensures.lent c.set_lent-pass.ensures.values
    (sym c.is_moving-moves.ensures ∙ c.if-moves.true) c.set_lent-pass.ensures.answer (set_only c.args.at c.args.thresholds c.set_lent-pass.result.1))

pub settle_still-requires-clause-row : goal.settle_still-requires-clause-row
settle_still-requires-clause-row g c =
    may_stay c.args.pass c.set_lent-pass.result.0 _ c.requires.spare
    (unchanged c.args.policies c.args.states c.args.live.now c.args.pass c.enter_turn.new.pass c.set_lent-pass.result.0
    (record { at = c.args.at; call = call.PolicySet c.args.thresholds; reply = c.set_lent-pass.result.1 })
    c.requires.base c.requires.rests.0 c.requires.rests.1 c.enter_turn.ensures.row c.set_lent-pass.ensures.lent c.set_lent-pass.ensures.values
    (sym c.is_moving-moves.ensures ∙ c.if-moves.false) c.set_lent-pass.ensures.answer)

pub settle_still-requires-clause-honest : goal.settle_still-requires-clause-honest
settle_still-requires-clause-honest g c =
    stays_alone c.args.pass c.set_lent-pass.result.0 _ (λ s. refl)
    (unchanged c.args.policies c.args.states c.args.live.now c.args.pass c.enter_turn.new.pass c.set_lent-pass.result.0
    (record { at = c.args.at; call = call.PolicySet c.args.thresholds; reply = c.set_lent-pass.result.1 })
    c.requires.base c.requires.rests.0 c.requires.rests.1 c.enter_turn.ensures.row c.set_lent-pass.ensures.lent c.set_lent-pass.ensures.values
    (sym c.is_moving-moves.ensures ∙ c.if-moves.false) c.set_lent-pass.ensures.answer)

pub returns-then-moves-clause-served : goal.returns-then-moves-clause-served
returns-then-moves-clause-served g c =
    changed_served c.args.policies c.args.states c.args.pass c.set_lent-pass.result.0 _
    (changed c.args.policies c.args.states c.args.live.now c.args.pass c.enter_turn.new.pass c.set_lent-pass.result.0
    (record { at = c.args.at; call = call.PolicySet c.args.thresholds; reply = c.set_lent-pass.result.1 })
    c.requires.base c.requires.rests.0 c.requires.rests.1 c.enter_turn.ensures.row c.set_lent-pass.ensures.lent c.set_lent-pass.ensures.values
    (sym c.is_moving-moves.ensures ∙ c.if-moves.true) c.set_lent-pass.ensures.answer (set_only c.args.at c.args.thresholds c.set_lent-pass.result.1))
    c.settle_moving.result c.settle_moving.ensures.settled

pub returns-else-moves-clause-served : goal.returns-else-moves-clause-served
returns-else-moves-clause-served g c =
    served_settled c.args.pass c.set_lent-pass.result.0 c.settle_still.result _
    (unchanged c.args.policies c.args.states c.args.live.now c.args.pass c.enter_turn.new.pass c.set_lent-pass.result.0
    (record { at = c.args.at; call = call.PolicySet c.args.thresholds; reply = c.set_lent-pass.result.1 })
    c.requires.base c.requires.rests.0 c.requires.rests.1 c.enter_turn.ensures.row c.set_lent-pass.ensures.lent c.set_lent-pass.ensures.values
    (sym c.is_moving-moves.ensures ∙ c.if-moves.false) c.set_lent-pass.ensures.answer)
    c.settle_still.ensures.settled
