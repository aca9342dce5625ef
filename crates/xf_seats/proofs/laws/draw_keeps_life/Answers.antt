use Rattle.xf_seats.proofs.Life.{draw_keeps_life}
use Rattle.xf_seats.proofs.laws.draw_keeps_life.Goals as goal

pub returns : goal.returns
returns c = draw_keeps_life
