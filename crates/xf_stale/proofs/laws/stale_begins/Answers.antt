use Rattle.xf_stale.proofs.Stale.{stale_begins}
use Rattle.xf_stale.proofs.laws.stale_begins.Goals as goal

pub returns : goal.returns
returns g c = stale_begins g.T.Lists.lists g.T.Means.id_place g.T.Pools.policies g.T.Pools.states
