use Rattle.std.proofs.Common.{refl}
use Rattle.xf_examples.proofs.rows.index_rows.Goals as goal

pub returns : goal.returns
returns c = record {
  twice = refl;
  room = refl;
  room_for_two = refl;
  wrap = refl;
  given = refl;
  wrong_direction = refl;
  wrong_key = refl;
  update_at_capacity = refl;
  not_listed = refl;
}
