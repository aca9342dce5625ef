use Rattle.xf_ownpart.proofs.OwnDraws.{still_keeps_own, trial_keeps_own}
use Rattle.xf_ownpart.proofs.OwnMoves.{move_keeps_own}
use Rattle.xf_ownpart.proofs.laws.draw_keeps_own.Goals as goal

pub returns : goal.returns
returns g c = record {
  moving = λ most base start w e turn opens yet none moves may leads keeps covered. move_keeps_own g.T.Means.bucket_of g.T.Means.good g.T.Lists.lists g.met.T.Lists.listing most base start w e turn opens yet none moves may leads keeps covered;
  still = λ most base start w. still_keeps_own g.T.Means.bucket_of g.T.Means.good g.T.Lists.lists g.met.T.Lists.listing most base start w;
  trial = λ most base start w. trial_keeps_own g.T.Means.bucket_of g.T.Means.good g.T.Lists.lists g.met.T.Lists.listing most base start w;
}
