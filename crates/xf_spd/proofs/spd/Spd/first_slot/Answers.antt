use Rattle.std.proofs.Common.{◌∙◌}
use Rattle.xf_listing.proofs.Reading.{first_slot_is}
use Rattle.xf_spd.proofs.spd.Spd.first_slot.Goals as goal

pub returns-clause-answer : goal.returns-clause-answer
returns-clause-answer g c = λ image s es h stands. c.after.ensures.answer image h ∙ first_slot_is c.args.self.now.area image s es stands.list
