use Rattle.xf_run.proofs.Doing.{does_nothing}
use Rattle.xf_run.proofs.program.top.Goals as goal

pub returns-in-Err-clause-does : goal.returns-in-Err-clause-does
returns-in-Err-clause-does g c = does_nothing _ _ _ _
