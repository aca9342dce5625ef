use Rattle.std.proofs.Common.{rules, ◌≡◌, ◌↔◌, length, ap, sym, subst, ◌∙◌}
use Rattle.std.specs.Prelude.{IfOk, IsTrue}
use Rattle.xf_types.specs.declared.call.Reply.TheVariants as reply
use Rattle.xf_types.specs.Machine.{Machine}
use Rattle.xf_types.specs.History.{IsHeldBack, with_policies}
use Rattle.xf_types.specs.Steps.{step}
use Rattle.xf_hist.proofs.Answering.{like, with-fact}
use Rattle.xf_hist.proofs.moment.Moment.policies_are_held_back.Goals as goal

pub returns : goal.returns
returns c =
    let m = c.args.self.now.machine in
    let full = reply.Full c.args.live 0 in
    let held : IsHeldBack c.args.live c.args.waiting (length m.shown.policies) m.shown.max_policies c.args.self.now.policies_removed = search rules in
    let filled : c.fill_policies.new.self ≡ with_policies m (length m.shown.policies) =
    c.fill_policies.ensures ∙ ap (λ (n : Machine). with_policies n (length n.shown.policies)) c.in_ok-filled.ensures in
    with-fact _ _ c.answers.result held
    (like _ _ c.answers.result (sym, sym)
    (subst (λ (n : Machine). IfOk c.answers.result (λ b. IsTrue b ↔ (full ≡ (step n c.args.receipt.now.call).reply))) filled c.answers.ensures.answer))
