use Rattle.xf_laws.proofs.NewLemmas.{state-new, own-new, policy-new}
use Rattle.xf_laws.proofs.laws.listed_anew.Goals as goal

pub returns : goal.returns
returns c = record { state = state-new; own = own-new; policy = policy-new }
