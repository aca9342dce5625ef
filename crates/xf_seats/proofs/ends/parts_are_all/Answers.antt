use Rattle.xf_seats.proofs.Merged.{parts_are_all}
use Rattle.xf_seats.proofs.ends.parts_are_all.Goals as goal

pub returns : goal.returns
returns c = parts_are_all
