use Rattle.xf_seats.proofs.First.{one_seat_life}
use Rattle.xf_seats.proofs.laws.one_seat_life.Goals as goal

pub returns : goal.returns
returns c = one_seat_life
