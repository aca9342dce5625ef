use Rattle.xf_stale.proofs.Stale.{free_gone, held_gone}
use Rattle.xf_stale.proofs.laws.stale_says.Goals as goal

pub returns : goal.returns
returns g c = record {
  free = λ most base start h. free_gone g.T.Means.bucket_of g.T.Means.good g.T.Lists.lists g.T.Means.id_place g.T.Pools.policies g.T.Pools.states g.met.T.Lists.listing g.met.T.Shows.shows most base start h;
  held = λ most base start h. held_gone g.T.Means.bucket_of g.T.Means.good g.T.Lists.lists g.T.Means.id_place g.T.Pools.policies g.T.Pools.states g.met.T.Lists.listing g.met.T.Shows.shows most base start h;
}
