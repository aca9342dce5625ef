use Rattle.xf_seats.proofs.Pinned.{split_keeps_again}
use Rattle.xf_seats.proofs.parts.split_keeps_again.Goals as goal

pub returns : goal.returns
returns c = λ generation log views i v is. split_keeps_again views i v is generation log
