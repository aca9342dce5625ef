use Rattle.xf_seats.proofs.Holders.{split_keeps_held}
use Rattle.xf_seats.proofs.held.split_keeps_held.Goals as goal

pub returns : goal.returns
returns c = split_keeps_held
