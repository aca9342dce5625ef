use Rattle.xf_seats.proofs.First.{one_seat_image}
use Rattle.xf_seats.proofs.parts.one_seat_image.Goals as goal

pub returns : goal.returns
returns g c = one_seat_image g.T.Means.bucket_of g.T.Means.good
