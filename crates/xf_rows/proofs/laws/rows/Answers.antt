use Rattle.xf_rows.proofs.Changing.{record_changes, row_fated}
use Rattle.xf_rows.proofs.Coming.{acquire_acquires, add_acquires, alloc_acquires, row_comes_by, update_acquires}
use Rattle.xf_rows.proofs.Leaving.{row_comes, row_leaves, row_named, rows_leave}
use Rattle.xf_rows.proofs.Valued.{more_ended, none_ended}
use Rattle.xf_rows.proofs.laws.rows.Goals as goal

pub returns : goal.returns
returns c = record {
  leave = rows_leave;
  leave_one = row_leaves;
  come = row_comes;
  come_by = row_comes_by;
  adding = add_acquires;
  updating = update_acquires;
  allocating = alloc_acquires;
  acquired = acquire_acquires;
  change = record_changes;
  fate = row_fated;
  named = row_named;
  none_ended = none_ended;
  more_ended = more_ended;
}
