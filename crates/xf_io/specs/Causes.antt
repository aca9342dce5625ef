-- When a count of faults has risen, and which answers a count backs.
use Rattle.std.specs.Prelude.{◌≡◌, ℕ, ◌+◌, ◌-◌, ◌^◌, ◌<◌, ◌≤◌, min, Result, OnErr, MatchResult}

-- one more, or the end of the type, where a count stands still
abbrev pub next_count : ℕ → ℕ
next_count n = min (n + 1) (2 ^ 64 - 1)

-- a count has risen, or stands at the end of its type
abbrev pub Rose : ℕ → ℕ → Type 0
Rose before now = next_count before ≤ now

-- The count doesn't fall, and a call on a piece that isn't empty fails only where it rose.
pub record HasCause {T E : Type 0} (before now size : ℕ) (result : Result T E) : Type 0 where
  pub later : before ≤ now
  pub failed : 0 < size → OnErr result (Rose before now)

-- The count goes up by one where the call failed, and stays where it didn't.
abbrev pub Counts : {T E : Type 0} → ℕ → ℕ → Result T E → Type 0
Counts before now result = MatchResult result (λ _. now ≡ before) (λ _. now ≡ next_count before)
