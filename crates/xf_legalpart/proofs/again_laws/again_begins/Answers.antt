use Rattle.xf_legalpart.proofs.AgainRows.{again_begins}
use Rattle.xf_legalpart.proofs.again_laws.again_begins.Goals as goal

pub returns : goal.returns
returns k = again_begins
