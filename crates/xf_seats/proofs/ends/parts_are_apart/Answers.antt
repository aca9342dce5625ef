use Rattle.xf_seats.proofs.Apart.{parts_are_apart}
use Rattle.xf_seats.proofs.ends.parts_are_apart.Goals as goal

pub returns : goal.returns
returns c = parts_are_apart
