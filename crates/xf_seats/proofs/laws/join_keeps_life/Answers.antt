use Rattle.xf_seats.proofs.Join.{join_keeps_life}
use Rattle.xf_seats.proofs.laws.join_keeps_life.Goals as goal

pub returns : goal.returns
returns c = join_keeps_life
