-- Lists of entries.
use Rattle.std.specs.Prelude.{◌≡◌, ℕ, ◌<◌, length, slice_index, slice_set, Bool, true, false, List, ◌∷◌, ◌++◌, insert}
use Rattle.std.specs.List.{position_or_len}
use Rattle.xf_chain.specs.declared.column.Column.{Column}
use Rattle.xf_chain.specs.Columns.{Spans, cell_of}
use Rattle.xf_chain.specs.Lists.{Misses}
use Rattle.xf_index.specs.Indexes.{slots_in, records_in, Holds}
use Rattle.xf_index.specs.Parts.{AllOf, Falls, Parted}

pub record ListLaws (A : Type 0) : Type 0 where
  -- a list in which all fail after one that fails is parted
  pub parted : (test : A → Bool) (entries : List (ℕ × A)) → Falls test (records_in entries) → Parted test entries
  -- before the first that comes after it a record stands between the two parts
  pub between : (after : A → Bool) (r : A) (front back : List A) → AllOf after false front → AllOf after true back
      → insert (front ++ back) (position_or_len after (front ++ back)) r ≡ front ++ (r ∷ back)

-- What stands in the slots, where one entry more stands in its slot, or where one was replaced.
pub record HoldsLaws (A : Type 0) : Type 0 where
  pub put : (read : ℕ → ℕ) (want : A → ℕ) (slot : ℕ) (r : A) (front back : List (ℕ × A))
      → Holds read want (front ++ back) → read slot ≡ want r → Holds read want (front ++ ((slot, r) ∷ back))
  pub taken : (read : ℕ → ℕ) (want : A → ℕ) (slot : ℕ) (r : A) (front back : List (ℕ × A))
      → Holds read want (front ++ ((slot, r) ∷ back)) → Holds read want (front ++ back)
  pub changed : (read : ℕ → ℕ) (want : A → ℕ) (slot : ℕ) (r s : A) (front back : List (ℕ × A))
      → Holds read want (front ++ ((slot, r) ∷ back)) → read slot ≡ want s → Holds read want (front ++ ((slot, s) ∷ back))
  -- the same in a column, of which the word of that slot was written
  pub column : (column : Column) (image : List ℕ) (want : A → ℕ) (slot word : ℕ) (r : A) (front back : List (ℕ × A))
      → Spans column (length image) → slot < column.slots → word ≡ want r → Misses slot (slots_in (front ++ back))
      → Holds (λ s. slice_index image (cell_of column s)) want (front ++ back)
      → Holds (λ s. slice_index (slice_set image (cell_of column slot) word) (cell_of column s)) want (front ++ ((slot, r) ∷ back))
