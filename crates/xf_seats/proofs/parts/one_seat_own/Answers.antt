use Rattle.xf_seats.proofs.First.{one_seat_own}
use Rattle.xf_seats.proofs.parts.one_seat_own.Goals as goal

pub returns : goal.returns
returns g c = one_seat_own g.T.Lists.lists
