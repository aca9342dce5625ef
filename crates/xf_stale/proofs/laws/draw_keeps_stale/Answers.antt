use Rattle.xf_stale.proofs.Stale.{move_keeps, still_keeps, trial_keeps}
use Rattle.xf_stale.proofs.laws.draw_keeps_stale.Goals as goal

pub returns : goal.returns
returns g c = record {
  moving = λ most base start h one e moves_now turns turn opens yet none moving may leads keeps. move_keeps g.T.Means.bucket_of g.T.Means.good g.T.Lists.lists g.T.Means.id_place g.T.Pools.policies g.T.Pools.states g.met.T.Lists.listing g.met.T.Shows.shows most base start h one e turn opens yet none moving may leads keeps moves_now turns;
  still = λ most base start h. still_keeps g.T.Means.bucket_of g.T.Means.good g.T.Lists.lists g.T.Means.id_place g.T.Pools.policies g.T.Pools.states g.met.T.Lists.listing g.met.T.Shows.shows most base start h;
  trial = λ most base start h. trial_keeps g.T.Means.bucket_of g.T.Means.good g.T.Lists.lists g.T.Means.id_place g.T.Pools.policies g.T.Pools.states g.met.T.Lists.listing g.met.T.Shows.shows most base start h;
}
