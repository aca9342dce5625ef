use Rattle.std.proofs.Common.{◌∙◌, arith}
use Rattle.xf_spd.proofs.Found.{first_policy_is}
use Rattle.xf_spd.proofs.spd.Spd.first.Goals as goal

pub returns-clause-answer : goal.returns-clause-answer
returns-clause-answer g c = λ image s es h order stands.
    c.first_found.ensures.answer image h ∙ first_policy_is c.args.self.now.area image s es c.args.flow.now order stands

pub returns-clause-few : goal.returns-clause-few
returns-clause-few g c = λ image s es h agrees. let one = c.first_found.ensures.few image s es h agrees in omega (arith, one)
