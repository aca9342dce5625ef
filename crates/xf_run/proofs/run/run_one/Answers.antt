use Rattle.xf_run.proofs.Ending.{ran_out}
use Rattle.xf_run.proofs.run.run_one.Goals as goal

pub returns-in-Err-clause-outcome : goal.returns-in-Err-clause-outcome
returns-in-Err-clause-outcome g c = ran_out _ _ _

pub returns-in-Err-new-clause-outcome : goal.returns-in-Err-new-clause-outcome
returns-in-Err-new-clause-outcome g c = ran_out _ _ _
