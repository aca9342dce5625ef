use Rattle.xf_seats.proofs.JoinRest.{join_keeps_image}
use Rattle.xf_seats.proofs.parts.join_keeps_image.Goals as goal

pub returns : goal.returns
returns g c = λ base generation log words settled views i j v w is. join_keeps_image views i j v w is g.T.Means.bucket_of g.T.Means.good base generation log words settled
