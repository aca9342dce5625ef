use Rattle.xf_laws.proofs.ChangeLemmas.{move-time, move-policies, move-listed, move-states}
use Rattle.xf_laws.proofs.laws.changes.Goals as goal

pub returns : goal.returns
returns c = record { time = move-time; policies = move-policies; listed = move-listed; states = move-states }
