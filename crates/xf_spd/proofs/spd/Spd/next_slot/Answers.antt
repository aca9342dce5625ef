use Rattle.std.proofs.Common.{◌∙◌}
use Rattle.xf_listing.proofs.Reading.{next_slot_is}
use Rattle.xf_spd.proofs.spd.Spd.next_slot.Goals as goal

pub returns-clause-answer : goal.returns-clause-answer
returns-clause-answer g c = λ image s front back p h stands.
    c.after.ensures.answer image h ∙ next_slot_is c.args.self.now.area image s c.args.slot front back p stands.list
