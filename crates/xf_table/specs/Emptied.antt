-- The slots of a table that ended, and the values that are taken out of them.
use Rattle.std.specs.Prelude.{◌≡◌, ℕ, ◌<◌, Bool, false, List, Option, Some, slice_index_or}
use mathlib.Core.Option.{some}
use lib.ListN.{get_elem?}

module _ {T : Type 0} (homes : List (Option T)) where
  -- each slot has a value
  abbrev pub AreThere : ℕ → Type 0
  AreThere slots = (k : ℕ) → k < slots → (x : T) × (get_elem? homes k ≡ some (Some x))

  -- the list has those of the first slots
  abbrev pub AreValues : ℕ → List T → Type 0
  AreValues slots values = (k : ℕ) (x : T) → k < slots → get_elem? homes k ≡ some (Some x) → get_elem? values k ≡ some x

-- the first slots are empty
abbrev pub IsEmptied : List Bool → ℕ → Type 0
IsEmptied filled slots = (k : ℕ) → k < slots → slice_index_or filled k false ≡ false
