use Rattle.std.proofs.Common.{◌∙◌}
use Rattle.xf_listing.proofs.Reading.{count_is}
use Rattle.xf_spd.proofs.spd.Spd.count.Goals as goal

pub returns-clause-answer : goal.returns-clause-answer
returns-clause-answer g c = λ image s es h room stands. c.count_word.ensures.answer image h ∙ count_is c.args.self.now.area image s es room stands.list
