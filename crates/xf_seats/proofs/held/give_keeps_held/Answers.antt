use Rattle.xf_seats.proofs.Holders.{give_keeps_held}
use Rattle.xf_seats.proofs.held.give_keeps_held.Goals as goal

pub returns : goal.returns
returns c = λ turns views i v slot is g. give_keeps_held turns views i v is g slot
