use Rattle.xf_seats.proofs.First.{one_seat_turn}
use Rattle.xf_seats.proofs.laws.one_seat_turn.Goals as goal

pub returns : goal.returns
returns c = one_seat_turn
