use Rattle.xf_legalpart.proofs.Legal.{settle_keeps_legal}
use Rattle.xf_legalpart.proofs.laws.load_generation_keeps_legal.Goals as goal

pub returns : goal.returns
returns g c = λ most base start w. settle_keeps_legal g.T.Means.bucket_of g.T.Means.good g.T.Lists.lists most base start w g.met.T.Lists.listing
