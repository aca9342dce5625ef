use Rattle.xf_doubling.proofs.Grown.{indexed_grown, picked_short}
use Rattle.xf_doubling.proofs.Halves.{doubling_is}
use Rattle.xf_doubling.proofs.Numbers.{head_below}
use Rattle.xf_doubling.proofs.Outside.{split_outside}
use Rattle.xf_doubling.proofs.Splitting.{split_entries}
use Rattle.xf_doubling.proofs.laws.doublings.Goals as goal

pub returns : goal.returns
returns g c = record { split = split_entries; outside = split_outside; grown = indexed_grown; short = picked_short; below = head_below; sound = doubling_is }
