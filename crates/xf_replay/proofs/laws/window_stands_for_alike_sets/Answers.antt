use Rattle.xf_replay.proofs.AlikeLemmas.{accepted_to-normal, accepted_with-alike, shows-alike}
use Rattle.xf_replay.proofs.laws.window_stands_for_alike_sets.Goals as goal

pub returns : goal.returns
returns c = record { starts = accepted_to-normal; accepts = accepted_with-alike; shows = shows-alike }
