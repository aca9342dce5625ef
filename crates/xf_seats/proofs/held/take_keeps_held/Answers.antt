use Rattle.xf_seats.proofs.Holders.{take_keeps_held}
use Rattle.xf_seats.proofs.held.take_keeps_held.Goals as goal

pub returns : goal.returns
returns c = λ turns views i v slot listed is free g. take_keeps_held turns views i v is g slot listed
