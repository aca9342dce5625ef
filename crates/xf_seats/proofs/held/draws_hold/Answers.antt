use Rattle.xf_seats.proofs.Holders.{touched_holds, moved_holds}
use Rattle.xf_seats.proofs.held.draws_hold.Goals as goal

pub returns : goal.returns
returns c = record { touched = touched_holds; moved = moved_holds }
