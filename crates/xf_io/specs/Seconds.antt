-- What a clock answers.
use Rattle.std.specs.Prelude.{◌≡◌, ℕ, ◌+◌, ◌-◌, min, List, length, slice_index, Option, None, Some, ⊤}

-- The answer is the first of those to come, and the others are still to come.
abbrev pub ClockGives : Option (ℕ → ℕ) → Option (ℕ → ℕ) → ℕ → Type 0
ClockGives None new answer = ⊤
ClockGives (Some f) None answer = ⊥
ClockGives (Some f) (Some g) answer = (answer ≡ f 0) × ((k : ℕ) → g k ≡ f (k + 1))

-- the answer at a place, counted from 0, of a list whose last answer repeats; an empty list answers 0
abbrev pub answer_at : List ℕ → ℕ → ℕ
answer_at xs k = slice_index xs (min k (length xs - 1))
