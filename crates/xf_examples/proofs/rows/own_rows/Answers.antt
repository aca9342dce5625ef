use Rattle.std.proofs.Common.{refl}
use Rattle.xf_examples.proofs.rows.own_rows.Goals as goal

pub returns : goal.returns
returns c = record {
  beside_replaced = refl;
  beside_deleted = refl;
  beside_expired = refl;
  beside_ended = refl;
}
