use Rattle.std.proofs.Common.{refl}
use Rattle.xf_examples.proofs.rows.state_filter_rows.Goals as goal

pub returns : goal.returns
returns c = record {
  all = refl;
  by_src = refl;
  by_dst = refl;
  by_proto = refl;
  by_spi = refl;
  by_mode = refl;
  by_reqid = refl;
  by_two = refl;
  all_deleted = refl;
  deleted_by_src = refl;
  deleted_by_dst = refl;
  deleted_by_proto = refl;
  deleted_by_spi = refl;
  deleted_by_mode = refl;
  deleted_by_reqid = refl;
  flushed_by_proto = refl;
  all_flushed = refl;
}
