use Rattle.xf_views.proofs.Sayings.{turn_says}
use Rattle.xf_views.proofs.laws.turn_says.Goals as goal

pub returns : goal.returns
returns c = turn_says
