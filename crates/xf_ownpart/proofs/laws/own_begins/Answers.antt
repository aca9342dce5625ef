use Rattle.xf_ownpart.proofs.OwnSayings.{own_begins}
use Rattle.xf_ownpart.proofs.laws.own_begins.Goals as goal

pub returns : goal.returns
returns g c = own_begins g.T.Lists.lists
