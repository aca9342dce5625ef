use Rattle.xf_seats.proofs.Holders.{join_keeps_held}
use Rattle.xf_seats.proofs.held.join_keeps_held.Goals as goal

pub returns : goal.returns
returns c = λ turns views i j v w is there apart none g. join_keeps_held turns views i v is g j w there apart none
