use Rattle.xf_retired.proofs.Rows.{move_keeps, still_keeps, waits_keeps}
use Rattle.xf_retired.proofs.laws.draw_keeps_retired.Goals as goal

pub returns : goal.returns
returns g c = record {
  moving = λ most base start w. move_keeps g.T.Means.bucket_of g.T.Means.good g.T.Lists.lists g.T.Pools.index_at g.T.Pools.policies g.T.Pools.states g.met.T.Pools.pools most base start w;
  still = still_keeps g.T.Pools.policies g.T.Pools.states;
  waits = waits_keeps g.T.Pools.policies g.T.Pools.states;
}
