-- Lookups in a list of entries.
use Rattle.std.specs.Prelude.{◌≡◌, ℕ, Bool, true, false, cond, List, [], ◌∷◌, ◌++◌, Option, None, Some}
use Rattle.xf_index.specs.Indexes.{AllAre}

-- the first entry whose record passes a test, where one does
abbrev pub found_in : {A : Type 0} → (A → Bool) → List (ℕ × A) → Option (ℕ × A)
found_in test [] = None
found_in test (e ∷ es) = cond (test e.1) (Some e) (found_in test es)

-- its slot
abbrev pub slot_found : {A : Type 0} → Option (ℕ × A) → Option ℕ
slot_found None = None
slot_found (Some e) = Some e.0

-- its record
abbrev pub record_found : {A : Type 0} → Option (ℕ × A) → Option A
record_found None = None
record_found (Some e) = Some e.1

-- The entry with this slot and this record passes, and none before it does.
pub record Found {A : Type 0} (test : A → Bool) (slot : ℕ) (r : A) (entries : List (ℕ × A)) : Type 0 where
  pub front : List (ℕ × A)
  pub back : List (ℕ × A)
  pub whole : entries ≡ front ++ ((slot, r) ∷ back)
  pub passes : test r ≡ true
  pub before : AllAre test false front
