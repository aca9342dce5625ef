use Rattle.xf_index.proofs.Parts.{parted, inserted_between}
use Rattle.xf_index.proofs.laws.parting.Goals as goal

pub returns : goal.returns
returns g c = record {
  parted = parted;
  between = inserted_between;
}
