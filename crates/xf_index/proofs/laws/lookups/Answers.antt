use Rattle.xf_index.proofs.Finds.{found_walked, found_own_walked, found_record, found_splits, found_none}
use Rattle.xf_index.proofs.laws.lookups.Goals as goal

pub returns : goal.returns
returns g c = record {
  walked = found_walked;
  own = found_own_walked;
  record_is = found_record;
  splits = found_splits;
  none = found_none;
}
