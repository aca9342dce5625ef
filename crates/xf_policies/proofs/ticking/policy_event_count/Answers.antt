use Rattle.std.proofs.Common.{◌∙◌}
use Rattle.xf_policies.proofs.Gathered.{events_counted}
use Rattle.xf_policies.proofs.ticking.policy_event_count.Goals as goal

pub returns-clause-answer : goal.returns-clause-answer
returns-clause-answer g c = λ image s es agrees st. c.count_changes.ensures.answer image s es agrees st ∙ events_counted c.args.now s.policies
