use Rattle.xf_ownpart.proofs.OwnSayings.{own_says}
use Rattle.xf_ownpart.proofs.laws.own_says.Goals as goal

pub returns : goal.returns
returns g c = own_says g.T.Means.bucket_of g.T.Means.good g.T.Lists.lists g.met.T.Lists.listing
