use Rattle.std.proofs.Common.{refl}
use Rattle.xf_examples.proofs.rows.threshold_rows.Goals as goal

pub returns : goal.returns
returns c = record {
  flow_stays = refl;
  first_v4 = refl;
  first_v6 = refl;
  v4_given = refl;
  v6_given = refl;
  out = refl;
  out_local_short = refl;
  out_remote_short = refl;
  out_crossed = refl;
  inward = refl;
  inward_crossed = refl;
  forward = refl;
  forward_crossed = refl;
  whole = refl;
  not_whole = refl;
  other_family = refl;
  own_family = refl;
}
