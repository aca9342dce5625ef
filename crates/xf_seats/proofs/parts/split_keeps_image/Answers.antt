use Rattle.xf_seats.proofs.SplitRest.{split_keeps_image}
use Rattle.xf_seats.proofs.parts.split_keeps_image.Goals as goal

pub returns : goal.returns
returns g c = λ base generation log words settled views i v is. split_keeps_image views i v is g.T.Means.bucket_of g.T.Means.good base generation log words settled
