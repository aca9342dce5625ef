use Rattle.xf_laws.proofs.LaterLemmas.{step-later, none-leaves, no-own-leaves}
use Rattle.xf_laws.proofs.laws.later.Goals as goal

pub returns : goal.returns
returns c = record { step = step-later; none_leaves = none-leaves; no_own_leaves = no-own-leaves }
