use Rattle.xf_runs.proofs.Honestly.{parts_stay}
use Rattle.xf_runs.proofs.laws.parts_stay.Goals as goal

pub returns : goal.returns
returns g c = parts_stay g.T.Means.bucket_of g.T.Means.good g.T.Lists.lists g.T.Means.id_place g.T.Pools.index_at g.T.Pools.policies g.T.Pools.states g.met.T.Lists.listing g.met.T.Pools.pools g.met.T.Shows.shows
