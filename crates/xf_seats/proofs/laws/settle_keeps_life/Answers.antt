use Rattle.xf_seats.proofs.Life.{settle_keeps_life}
use Rattle.xf_seats.proofs.laws.settle_keeps_life.Goals as goal

pub returns : goal.returns
returns c = settle_keeps_life
