use Rattle.xf_seats.proofs.Holders.{others_keep_held}
use Rattle.xf_seats.proofs.held.others_keep_held.Goals as goal

pub returns : goal.returns
returns c = λ turns views i v w is s g. others_keep_held turns views i v is g w s
