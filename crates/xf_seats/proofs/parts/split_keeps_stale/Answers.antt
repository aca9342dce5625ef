use Rattle.xf_seats.proofs.Pinned.{split_keeps_stale}
use Rattle.xf_seats.proofs.parts.split_keeps_stale.Goals as goal

pub returns : goal.returns
returns g c = λ policies states start log settled views i v is p. split_keeps_stale views i v is g.T.Lists.lists g.T.Means.id_place policies states start log settled p
