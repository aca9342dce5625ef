use Rattle.xf_runs.proofs.Rows.{turns_stay}
use Rattle.xf_runs.proofs.laws.turns_stay.Goals as goal

pub returns : goal.returns
returns c = turns_stay
