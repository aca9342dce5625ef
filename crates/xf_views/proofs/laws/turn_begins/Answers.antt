use Rattle.xf_views.proofs.Beginnings.{turn_begins}
use Rattle.xf_views.proofs.laws.turn_begins.Goals as goal

pub returns : goal.returns
returns c = turn_begins
