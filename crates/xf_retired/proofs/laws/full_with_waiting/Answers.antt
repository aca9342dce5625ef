use Rattle.xf_retired.proofs.Fulls.{full_is_legal}
use Rattle.xf_retired.proofs.laws.full_with_waiting.Goals as goal

pub returns : goal.returns
returns g c = λ most base start w. full_is_legal g.T.Means.bucket_of g.T.Means.good g.T.Lists.lists g.T.Pools.index_at g.T.Pools.policies g.T.Pools.states g.met.T.Pools.pools most base start w
