use Rattle.xf_exact.proofs.PartLaws.{stand_tell}
use Rattle.xf_exact.proofs.laws.parts.Goals as goal

pub returns : goal.returns
returns c = record { tells = stand_tell }
