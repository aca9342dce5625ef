use Rattle.xf_seats.proofs.Endings.{end_has_all}
use Rattle.xf_seats.proofs.ends.end_has_all.Goals as goal

pub returns : goal.returns
returns c = end_has_all
