use Rattle.xf_index.proofs.Puts.{indexed_put}
use Rattle.xf_index.proofs.Takes.{indexed_taken}
use Rattle.xf_index.proofs.Stays.{indexed_changed, indexed_apart}
use Rattle.xf_index.proofs.Rebuilds.{indexed_rebuilt}
use Rattle.xf_index.proofs.laws.changes.Goals as goal

pub returns : goal.returns
returns g c = record {
  put = indexed_put;
  taken = indexed_taken;
  changed = indexed_changed;
  apart = indexed_apart;
  anew = indexed_rebuilt;
}
