use Rattle.xf_laws.proofs.StepLemmas.{step-refused, step-still, step-moved, step-alone, step-ours}
use Rattle.xf_laws.proofs.laws.steps.Goals as goal

pub returns : goal.returns
returns c = record { refused = step-refused; still = step-still; moved = step-moved; alone = step-alone; ours = step-ours }
