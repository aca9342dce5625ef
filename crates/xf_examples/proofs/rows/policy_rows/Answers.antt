use Rattle.std.proofs.Common.{refl}
use Rattle.xf_examples.proofs.rows.policy_rows.Goals as goal

pub returns : goal.returns
returns c = record {
  first_flow = refl;
  equal_priorities = refl;
  exact_later = refl;
  exact_first = refl;
  sub_first = refl;
  sub_for_another = refl;
  no_policy = refl;
  times = refl;
}
