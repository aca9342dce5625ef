use Rattle.std.proofs.Common.{◌∙◌}
use Rattle.xf_policies.proofs.getting.policy_get.Goals as goal

pub returns-clause-answer : goal.returns-clause-answer
returns-clause-answer g c = λ image s es agrees st. c.policy_reply.ensures ∙ c.get-answer.ensures.answer image s es agrees st
