use Rattle.std.proofs.Common.{sym, ap, ◌∙◌}
use Rattle.xf_types.specs.declared.call.Call.{Call}
use Rattle.xf_types.specs.Steps.{step}
use Rattle.xf_serve.proofs.reading.reply.Goals as goal

pub returns-in-PolicyGet-clause-reply : goal.returns-in-PolicyGet-clause-reply
returns-in-PolicyGet-clause-reply g c image m es xs agrees on_policies on_states some =
    c.policy_get.ensures.answer image m.shown es agrees on_policies ∙ ap (λ (x : Call). (step m x).reply) (sym c.in-PolicyGet.is)

pub returns-in-PolicyList-clause-reply : goal.returns-in-PolicyList-clause-reply
returns-in-PolicyList-clause-reply g c image m es xs agrees on_policies on_states some =
    c.policy_list.ensures.answer image m.shown es agrees on_policies some ∙ ap (λ (x : Call). (step m x).reply) (sym c.in-PolicyList.is)

pub returns-in-PolicyCount-clause-reply : goal.returns-in-PolicyCount-clause-reply
returns-in-PolicyCount-clause-reply g c image m es xs agrees on_policies on_states some =
    c.policy_count.ensures.answer image m.shown es agrees on_policies ∙ ap (λ (x : Call). (step m x).reply) (sym c.in-PolicyCount.is)

pub returns-in-StateGet-clause-reply : goal.returns-in-StateGet-clause-reply
returns-in-StateGet-clause-reply g c image m es xs agrees on_policies on_states some =
    c.state_get.ensures.answer image m.shown xs agrees on_states ∙ ap (λ (x : Call). (step m x).reply) (sym c.in-StateGet.is)

pub returns-in-StateList-clause-reply : goal.returns-in-StateList-clause-reply
returns-in-StateList-clause-reply g c image m es xs agrees on_policies on_states some =
    c.state_list.ensures.answer image m.shown xs agrees on_states some ∙ ap (λ (x : Call). (step m x).reply) (sym c.in-StateList.is)

pub returns-in-StateCount-clause-reply : goal.returns-in-StateCount-clause-reply
returns-in-StateCount-clause-reply g c image m es xs agrees on_policies on_states some =
    c.state_count.ensures.answer image m.shown xs agrees on_states ∙ ap (λ (x : Call). (step m x).reply) (sym c.in-StateCount.is)
