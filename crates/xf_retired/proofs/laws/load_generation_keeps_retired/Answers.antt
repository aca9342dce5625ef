use Rattle.xf_retired.proofs.Rows.{settle_keeps}
use Rattle.xf_retired.proofs.laws.load_generation_keeps_retired.Goals as goal

pub returns : goal.returns
returns g c = λ most base start w. settle_keeps g.T.Means.bucket_of g.T.Means.good g.T.Lists.lists g.T.Pools.policies g.T.Pools.states g.met.T.Lists.listing most base start w
