use Rattle.xf_seats.proofs.Pinned.{join_keeps_again}
use Rattle.xf_seats.proofs.parts.join_keeps_again.Goals as goal

pub returns : goal.returns
returns c = λ generation log views i j v w is. join_keeps_again views i v is j w generation log
