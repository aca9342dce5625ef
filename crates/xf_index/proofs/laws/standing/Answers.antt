use Rattle.xf_index.proofs.Columns.{column_put}
use Rattle.xf_index.proofs.Holds.{holds_put, holds_taken, holds_changed}
use Rattle.xf_index.proofs.laws.standing.Goals as goal

pub returns : goal.returns
returns g c = record {
  put = holds_put;
  taken = holds_taken;
  changed = holds_changed;
  column = column_put;
}
