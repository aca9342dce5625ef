use Rattle.std.proofs.Common.{refl}
use Rattle.xf_examples.proofs.rows.window_rows.Goals as goal

pub returns : goal.returns
returns c = record {
  window = refl;
  extended = refl;
  no_number = refl;
  accepted = refl;
  accepted_extended = refl;
}
