use Rattle.std.proofs.Common.{refl}
use Rattle.xf_examples.proofs.rows.policy_filter_rows.Goals as goal

pub returns : goal.returns
returns c = record {
  all = refl;
  by_dir = refl;
  by_ptype = refl;
  by_action = refl;
  by_priority = refl;
  by_index = refl;
  by_src = refl;
  by_dst = refl;
  by_proto = refl;
  by_sport = refl;
  by_dport = refl;
  by_two = refl;
  filters = refl;
  counted = refl;
}
