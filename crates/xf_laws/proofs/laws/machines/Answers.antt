use Rattle.xf_laws.proofs.KeepLemmas.{empty-is}
use Rattle.xf_laws.proofs.MachineLemmas.{step-kept, history-kept}
use Rattle.xf_laws.proofs.laws.machines.Goals as goal

pub returns : goal.returns
returns c = record { empty = empty-is; step = step-kept; history = history-kept }
