use Rattle.xf_seats.proofs.Holders.{one_seat_held}
use Rattle.xf_seats.proofs.held.one_seat_held.Goals as goal

pub returns : goal.returns
returns c = one_seat_held
