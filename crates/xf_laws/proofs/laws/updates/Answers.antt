use Rattle.xf_laws.proofs.UpdateLemmas.{update-replaces, added-free}
use Rattle.xf_laws.proofs.laws.updates.Goals as goal

pub returns : goal.returns
returns c = record { one = update-replaces; index_free = added-free }
