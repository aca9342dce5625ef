use Rattle.xf_seats.proofs.Pinned.{join_keeps_stale}
use Rattle.xf_seats.proofs.parts.join_keeps_stale.Goals as goal

pub returns : goal.returns
returns g c = λ policies states start log settled views i j v w is p. join_keeps_stale views i v is g.T.Lists.lists g.T.Means.id_place policies states start log settled p j w
