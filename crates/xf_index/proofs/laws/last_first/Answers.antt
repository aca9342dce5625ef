use Rattle.xf_index.proofs.Latest.{latest_put, back_put, back_taken}
use Rattle.xf_index.proofs.laws.last_first.Goals as goal

pub returns : goal.returns
returns g c = record {
  put_last = latest_put;
  put = back_put;
  taken = back_taken;
}
