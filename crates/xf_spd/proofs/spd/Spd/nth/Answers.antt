use Rattle.std.proofs.Common.{◌∙◌}
use Rattle.xf_listing.proofs.Reading.{nth_is}
use Rattle.xf_spd.proofs.spd.Spd.nth.Goals as goal

pub returns-clause-answer : goal.returns-clause-answer
returns-clause-answer g c = λ image s es h stands. c.nth_listed.ensures.answer image h ∙ nth_is c.args.self.now.area image c.args.place s es stands.list
