use Rattle.std.proofs.Common.{◌∙◌}
use Rattle.xf_listing.proofs.Reading.{policy_is}
use Rattle.xf_spd.proofs.spd.Spd.policy.Goals as goal

pub returns-clause-answer : goal.returns-clause-answer
returns-clause-answer g c = λ image s front back p h stands.
    c.policy_in.ensures.answer image h ∙ policy_is c.args.self.now.area image s c.args.slot front back p stands.list
