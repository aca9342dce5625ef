use Rattle.xf_runs.proofs.Reuse.{no_reuse}
use Rattle.xf_runs.proofs.laws.no_reuse.Goals as goal

pub returns : goal.returns
returns c = no_reuse
