use Rattle.std.proofs.Common.{◌∙◌}
use Rattle.xf_listing.proofs.Reading.{next_index_is}
use Rattle.xf_spd.proofs.spd.Spd.next_index.Goals as goal

pub returns-clause-answer : goal.returns-clause-answer
returns-clause-answer g c = λ image s es h range stands. c.index_word.ensures.answer image h ∙ next_index_is c.args.self.now.area image s es range stands.list
