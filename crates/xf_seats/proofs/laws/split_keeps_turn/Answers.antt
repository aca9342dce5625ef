use Rattle.xf_seats.proofs.Split.{split_keeps_turn}
use Rattle.xf_seats.proofs.laws.split_keeps_turn.Goals as goal

pub returns : goal.returns
returns c = split_keeps_turn
