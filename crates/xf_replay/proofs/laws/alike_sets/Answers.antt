use Rattle.xf_replay.proofs.AlikeLemmas.{top-alike, replay_check-alike, AreAlike-cons}
use Rattle.xf_replay.proofs.laws.alike_sets.Goals as goal

pub returns : goal.returns
returns c = record { tops = top-alike; answers = replay_check-alike; stays = AreAlike-cons }
