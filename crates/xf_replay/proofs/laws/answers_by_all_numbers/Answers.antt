use Rattle.xf_replay.proofs.HistoryLemmas.{all_accepted, accepted_after-alike, top-accepted_after, replay_check-accepted_after}
use Rattle.xf_replay.proofs.laws.answers_by_all_numbers.Goals as goal

pub returns : goal.returns
returns c = record {
  all = all_accepted;
  alike = accepted_after-alike;
  tops = top-accepted_after;
  answers = replay_check-accepted_after;
}
