use Rattle.xf_seats.proofs.Join.{join_keeps_turn}
use Rattle.xf_seats.proofs.laws.join_keeps_turn.Goals as goal

pub returns : goal.returns
returns c = join_keeps_turn
