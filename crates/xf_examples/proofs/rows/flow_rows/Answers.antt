use Rattle.std.proofs.Common.{refl}
use Rattle.xf_examples.proofs.rows.flow_rows.Goals as goal

pub returns : goal.returns
returns c = record {
  acquire = refl;
  larval_ends = refl;
  larval_stays = refl;
  overflow = refl;
  skipped = refl;
  best = refl;
  larval_skipped = refl;
  larval_awaited = refl;
  no_room = refl;
  inward = refl;
}
