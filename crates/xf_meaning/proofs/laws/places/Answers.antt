use Rattle.xf_meaning.proofs.Keeping.{listed, keeps_slots}
use Rattle.xf_meaning.proofs.laws.places.Goals as goal

pub returns : goal.returns
returns c = record { listed = λ p s image slot marks l. listed p s image marks slot l; keeps = keeps_slots }
