-- Which slots are free: those of a list.
use Rattle.std.specs.Prelude.{◌≡◌, ℕ, ◌<◌, ◌==◌, Bool, true, false, not, ◌&&◌, List, [], ◌∷◌}
use Rattle.std.specs.List.{list_any}

-- a slot is one of a list
abbrev pub is_among : ℕ → List ℕ → Bool
is_among slot slots = list_any (λ other. slot == other) slots

-- no slot comes twice
abbrev pub are_apart : List ℕ → Bool
are_apart [] = true
are_apart (slot ∷ slots) = not (is_among slot slots) && are_apart slots

-- each is a slot, and stands in the list once
pub record AreFree (count : ℕ) (free : List ℕ) : Type 0 where
  pub below : (slot : ℕ) → is_among slot free ≡ true → slot < count
  pub once : are_apart free ≡ true

-- this slot is free
pub record IsFree (free : List ℕ) (slot : ℕ) : Type 0 where
  pub is : is_among slot free ≡ true

-- there is this slot, and it isn't free
pub record IsOut (count : ℕ) (free : List ℕ) (slot : ℕ) : Type 0 where
  pub within : slot < count
  pub is : is_among slot free ≡ false
