use Rattle.xf_laws.proofs.AcceptLemmas.{accepts-once}
use Rattle.xf_laws.proofs.laws.acceptances.Goals as goal

pub returns : goal.returns
returns c = record { once = accepts-once }
