use Rattle.std.proofs.Common.{refl}
use Rattle.xf_examples.proofs.rows.state_rows.Goals as goal

pub returns : goal.returns
returns c = record {
  updated = refl;
  range = refl;
  no_range = refl;
  no_room = refl;
  marks = refl;
  larval_update = refl;
  larval_output = refl;
  update_in_use = refl;
  not_listed = refl;
}
