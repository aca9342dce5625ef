use Rattle.xf_invariant.proofs.Beginnings.{image_begins}
use Rattle.xf_invariant.proofs.image_laws.image_begins.Goals as goal

pub returns : goal.returns
returns g c = image_begins g.T.Means.bucket_of g.T.Means.good
