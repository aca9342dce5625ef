use Rattle.xf_seats.proofs.Merged.{merged_is_history}
use Rattle.xf_seats.proofs.ends.merged_is_history.Goals as goal

pub returns : goal.returns
returns c = merged_is_history
