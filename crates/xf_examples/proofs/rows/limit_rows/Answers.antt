use Rattle.std.proofs.Common.{refl}
use Rattle.xf_examples.proofs.rows.limit_rows.Goals as goal

pub returns : goal.returns
returns c = record {
  hard = refl;
  hard_at_once = refl;
  soft = refl;
  soft_with_bad_icv = refl;
  soft_with_overflow = refl;
  last_minute = refl;
  sums = refl;
}
