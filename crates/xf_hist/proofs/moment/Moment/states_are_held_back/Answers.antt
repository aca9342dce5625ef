use Rattle.std.proofs.Common.{rules, ◌≡◌, ◌↔◌, length, ap, sym, subst, ◌∙◌}
use Rattle.std.specs.Prelude.{IfOk, IsTrue}
use Rattle.xf_types.specs.declared.call.Reply.TheVariants as reply
use Rattle.xf_types.specs.Machine.{Machine}
use Rattle.xf_types.specs.History.{IsHeldBack, with_states}
use Rattle.xf_types.specs.Steps.{step}
use Rattle.xf_hist.proofs.Answering.{like, with-fact}
use Rattle.xf_hist.proofs.moment.Moment.states_are_held_back.Goals as goal

pub returns : goal.returns
returns c =
    let m = c.args.self.now.machine in
    let full = reply.Full c.args.live 0 in
    let held : IsHeldBack c.args.live c.args.waiting (length m.shown.states) m.shown.max_states c.args.self.now.states_removed = search rules in
    let filled : c.fill_states.new.self ≡ with_states m (length m.shown.states) =
    c.fill_states.ensures ∙ ap (λ (n : Machine). with_states n (length n.shown.states)) c.in_ok-filled.ensures in
    with-fact _ _ c.answers.result held
    (like _ _ c.answers.result (sym, sym)
    (subst (λ (n : Machine). IfOk c.answers.result (λ b. IsTrue b ↔ (full ≡ (step n c.args.receipt.now.call).reply))) filled c.answers.ensures.answer))
