use Rattle.std.proofs.Common.{arith, ◌≡◌, ◌<◌, ap, ◌∙◌, length, subst}
use Rattle.std.specs.Prelude.{Some, true}
use Rattle.xf_types.specs.declared.call.Reply.TheVariants.{Acquire}
use Rattle.xf_types.specs.declared.state.SaSpec.{SaSpec}
use Rattle.xf_types.specs.Changes.{machine_after, LeaveThen}
use Rattle.xf_types.specs.FlowRules.{free_seq}
use Rattle.xf_types.specs.Machine.{Machine, outcome}
use Rattle.xf_types.specs.StateList.{is_none}
use Rattle.xf_plain.proofs.Asking.{acquired-put}
use Rattle.xf_plain.proofs.plain.Plain.acquire.Goals as goal

pub returns-in-Ok-clause-answer : goal.returns-in-Ok-clause-answer
returns-in-Ok-clause-answer c done =
    let m = c.args.self.now in
    let seq = c.free_seq-seq.result in
    let room : length c.self.inside.states.states < c.self.inside.max_states = omega (arith, c.if-len-self.false, c.len.ensures) in
    ap (λ (n : Machine). outcome (Acquire seq) (record n { shown = record n.shown { next_seq = c.next_seq-self-inside.result } }))
    (c.self-2.view_is ∙ c.in-Ok.ensures.ok
    ∙ ap (λ (s : SaSpec). machine_after m (LeaveThen m.shown is_none (Some (record { spec = s; larval = true })))) c.with_seq.ensures)
    ∙ acquired-put m c.args.wanted seq c.next_seq-self-inside.result
    (subst (λ (n : Machine). length n.shown.states < n.shown.max_states) c.self.view_is room)
    (subst (λ (n : Machine). seq ≡ free_seq n.shown) c.self.view_is c.free_seq-seq.ensures.value)
    c.next_seq-self-inside.ensures.value
