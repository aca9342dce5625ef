use Rattle.xf_ownpart.proofs.OwnTurns.{give_keeps_own}
use Rattle.xf_ownpart.proofs.laws.give_turn_keeps_own.Goals as goal

pub returns : goal.returns
returns g c = λ most base start w. give_keeps_own g.T.Means.bucket_of g.T.Means.good g.T.Lists.lists g.met.T.Lists.listing most base start w
