use Rattle.xf_seats.proofs.Few.{numbers_are_small}
use Rattle.xf_seats.proofs.laws.numbers_are_small.Goals as goal

pub returns : goal.returns
returns c = numbers_are_small
