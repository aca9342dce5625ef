use Rattle.std.proofs.Common.{◌∙◌}
use Rattle.xf_listing.proofs.Reading.{next_number_is}
use Rattle.xf_spd.proofs.spd.Spd.next_number.Goals as goal

pub returns-clause-answer : goal.returns-clause-answer
returns-clause-answer g c = λ image s es h small stands. c.number_word.ensures.answer image h ∙ next_number_is c.args.self.now.area image s es small stands.list
