use Rattle.xf_seats.proofs.Life.{quiet_keeps_life}
use Rattle.xf_seats.proofs.laws.quiet_keeps_life.Goals as goal

pub returns : goal.returns
returns c = quiet_keeps_life
