-- The statuses after a call: one slot may come to be listed, and others leave.
use Rattle.std.specs.Prelude.{◌≡◌, ◌≢◌, ℕ, ◌+◌, ◌<◌, ◌≤◌, Bool, true, false, List, [], ◌∷◌, ◌++◌, length, slice_index, Option, Some, None}
use Rattle.xf_types.specs.PolicyList.{without}
use Rattle.xf_meaning.specs.Places.{layout_of}

-- this slot alone, where there is one
abbrev pub one_of : Option ℕ → List ℕ
one_of None = []
one_of (Some slot) = slot ∷ []

-- the list without those that left, and behind it the one that came
abbrev pub moved_slots : (ℕ → Bool) → Option ℕ → List ℕ → List ℕ
moved_slots gone came slots = without gone slots ++ one_of came

-- Of so many slots from a first one on, the one that came has the status of a listed one, those that left have another one, and the rest have what
-- they had.
pub record AreMoved (first size : ℕ) (old new : List ℕ) (gone : ℕ → Bool) (came : Option ℕ) : Type 0 where
  pub came_is : (slot : ℕ) → came ≡ Some slot → slice_index new (first + slot) ≡ 1
  pub gone_are : (slot : ℕ) → slot < size → gone slot ≡ true → came ≢ Some slot → slice_index new (first + slot) ≢ 1
  pub others : (slot : ℕ) → slot < size → gone slot ≡ false → came ≢ Some slot → slice_index new (first + slot) ≡ slice_index old (first + slot)

-- all words are the same but for the statuses and the ids
pub record KeepsRecords (p s : ℕ) (old new : List ℕ) : Type 0 where
  pub size : length new ≡ length old
  pub same : (q : ℕ) → p + s ≤ q → q ≤ (layout_of p s).clock → slice_index new q ≡ slice_index old q
