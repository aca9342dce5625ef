-- What holds of the numbers of a tally.
use Rattle.std.specs.Prelude.{ℕ, ◌*◌, ◌^◌, ◌≤◌}

-- no kind has more replies than there are calls, and none of them adds more to the mix than a line to 2^20 times a number to 2^64
pub record IsCounted (calls policy none sent accepted dropped refused mix : ℕ) : Type 0 where
  pub policy_fits : policy ≤ calls
  pub none_fits : none ≤ calls
  pub sent_fits : sent ≤ calls
  pub accepted_fits : accepted ≤ calls
  pub dropped_fits : dropped ≤ calls
  pub refused_fits : refused ≤ calls
  pub mix_fits : mix ≤ calls * 2 ^ 84
