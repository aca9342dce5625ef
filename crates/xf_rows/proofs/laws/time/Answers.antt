use Rattle.xf_rows.proofs.Later.{events_are, pairs_are, stands_later, walk_later}
use Rattle.xf_rows.proofs.laws.time.Goals as goal

pub returns : goal.returns
returns c = record { later = stands_later; pairs = pairs_are; events = events_are; walk = walk_later }
