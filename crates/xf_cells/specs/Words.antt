-- Words at places, and what is counted of them.
use Rattle.std.specs.Prelude.{ℕ, ◌+◌, ◌-◌, ◌^◌, min, List, replicate}

-- one more, or the end of the type, where a count stands still
abbrev pub next_count : ℕ → ℕ
next_count n = min (n + 1) (2 ^ 64 - 1)

-- the images that agree now are among those that agreed before
pub record Narrows (before now : List ℕ → Type 0) : Type 0 where
  pub among : (image : List ℕ) → now image → before image

-- as many words, each 0
abbrev pub zeros : ℕ → List ℕ
zeros n = replicate n 0
