use Rattle.xf_stale.proofs.Stale.{blank_keeps, settled_keeps}
use Rattle.xf_stale.proofs.laws.load_generation_keeps_stale.Goals as goal

pub returns : goal.returns
returns g c = record {
  blank = λ most base start h. blank_keeps g.T.Means.bucket_of g.T.Means.good g.T.Lists.lists g.T.Means.id_place g.T.Pools.policies g.T.Pools.states g.met.T.Lists.listing g.met.T.Shows.shows most base start h;
  settled = λ most base start h. settled_keeps g.T.Means.bucket_of g.T.Means.good g.T.Lists.lists g.T.Means.id_place g.T.Pools.policies g.T.Pools.states g.met.T.Lists.listing g.met.T.Shows.shows most base start h;
}
