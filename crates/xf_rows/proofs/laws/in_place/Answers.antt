use Rattle.xf_rows.proofs.Keeping.{stands_apart, policies_change}
use Rattle.xf_rows.proofs.laws.in_place.Goals as goal

pub returns : goal.returns
returns c = record { apart = stands_apart; policies = policies_change }
