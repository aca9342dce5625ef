use Rattle.xf_runs.proofs.Honestly.{legal_runs}
use Rattle.xf_runs.proofs.laws.legal_runs.Goals as goal

pub returns : goal.returns
returns g c = legal_runs g.T.Means.bucket_of g.T.Means.good g.T.Lists.lists g.T.Means.id_place g.T.Pools.index_at g.T.Pools.policies g.T.Pools.states g.met.T.Lists.listing g.met.T.Pools.pools g.met.T.Shows.shows
