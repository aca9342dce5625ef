use Rattle.xf_replay.proofs.HistoryLemmas.{zero_never, never_again, after_start, never_twice}
use Rattle.xf_replay.proofs.laws.no_number_twice.Goals as goal

pub returns : goal.returns
returns c = record {
  zero_never = zero_never;
  never_again = never_again;
  after_start = after_start;
  never_twice = never_twice;
}
