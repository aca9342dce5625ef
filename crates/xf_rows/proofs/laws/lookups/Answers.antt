use Rattle.xf_rows.proofs.Finding.{first_found, latest_found, none_first, none_latest}
use Rattle.xf_rows.proofs.laws.lookups.Goals as goal

pub returns : goal.returns
returns c = record { first = first_found; latest = latest_found; none_first = none_first; none_latest = none_latest }
