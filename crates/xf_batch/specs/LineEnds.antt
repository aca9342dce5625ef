-- Where the first logical line of some bytes ends.
use Rattle.std.specs.Prelude.{◌≡◌, ◌⊎◌, ℕ, ◌==◌, ◌+◌, ◌<◌, ◌≤◌, Bool, true, false, not, ◌&&◌, ◌||◌, List, [], ◌∷◌, ◌++◌, length, take, drop}
use Rattle.xf_lex.specs.declared.quoting.Quoting.{Quoting}
use Rattle.xf_lex.specs.declared.quoting.Quoting.TheVariants.{Bare}
use Rattle.xf_lex.specs.Quotes.{after, is_slash}
use Rattle.xf_lex.specs.LogicalLines.{lines_of, physical_lines}
use Rattle.xf_batch.specs.declared.ends.LineEnd.{LineEnd}

-- how many physical lines a logical line has: each line feed before its last byte begins one more
abbrev pub lines_in : List ℕ → ℕ
lines_in [] = 0
lines_in (b ∷ bs) = 1 + physical_lines (take (length bs) (b ∷ bs))

-- behind what stands before it, the byte ends its line: a line feed that joins nothing
abbrev pub ends_at : Quoting → ℕ → Bool
ends_at m b = (b == 10) && not (is_slash m)

-- behind what stands before them, a logical line ends within these bytes
abbrev pub ends_within : Quoting → List ℕ → Bool
ends_within m [] = false
ends_within m (b ∷ bs) = ends_at m b || ends_within (after m b) bs

-- a line feed of its own ends the logical line, and not the input's end: it is whole, whatever follows
abbrev pub has_feed : List ℕ → Bool
has_feed line = ends_within Bare line

-- the first logical line of the bytes isn't known to be whole: there is none, or more may follow and it doesn't end within them
abbrev pub IsUnfinished : List ℕ → Bool → Type 0
IsUnfinished bytes ended = (bytes ≡ []) ⊎ ((ended ≡ false) × (ends_within Bare bytes ≡ false))

-- the first logical line of the bytes ends here, whatever follows them, and nothing follows where they are the last ones
pub record IsLineEnd (bytes : List ℕ) (ended : Bool) (e : LineEnd) : Type 0 where
  pub some : 0 < e.bytes
  pub within : e.bytes ≤ length bytes
  pub count : e.lines ≡ lines_in (take e.bytes bytes)
  pub first : (more : List ℕ) → (ended ≡ true → more ≡ [])
      → lines_of (bytes ++ more) ≡ take e.bytes bytes ∷ lines_of (drop e.bytes bytes ++ more)
