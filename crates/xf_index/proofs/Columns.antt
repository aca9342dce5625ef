-- What stands in a column, where one of its words was written.
use Rattle.std.proofs.Common.{◌≡◌, ℕ, ◌+◌, ◌<◌, ◌≤◌, List, [], ◌∷◌, ◌++◌, length, ◌∙◌, arith, rules, get_or-set_same, get_or-set_other, slice_index, slice_set}
use Rattle.xf_chain.specs.Lists.{Misses, Within}
use Rattle.xf_index.specs.Indexes.{slots_in, Holds}
use Rattle.xf_chain.specs.declared.column.Column.{Column}
use Rattle.xf_chain.specs.Columns.{Spans, cell_of}
use Rattle.xf_index.proofs.Holds.{holds_kept, holds_put}

-- the word of a slot that isn't listed
pub column_other : {A : Type 0} (column : Column) (image : List ℕ) (want : A → ℕ) (slot word : ℕ) (es : List (ℕ × A))
    → Misses slot (slots_in es) → Holds (λ s. slice_index image (cell_of column s)) want es
    → Holds (λ s. slice_index (slice_set image (cell_of column slot) word) (cell_of column s)) want es
column_other column image want slot word [] m h = search rules
column_other column image want slot word (e ∷ es) m h =
    (get_or-set_other image (cell_of column slot) (cell_of column e.0) word 0 (λ q. m.0 (omega (arith, q))) ∙ h.0, column_other column image want slot word es m.1 h.1)

-- one entry more, whose word was written
pub column_put : {A : Type 0} (column : Column) (image : List ℕ) (want : A → ℕ) (slot word : ℕ) (r : A) (front back : List (ℕ × A))
    → Spans column (length image) → slot < column.slots → word ≡ want r → Misses slot (slots_in (front ++ back))
    → Holds (λ s. slice_index image (cell_of column s)) want (front ++ back)
    → Holds (λ s. slice_index (slice_set image (cell_of column slot) word) (cell_of column s)) want (front ++ ((slot, r) ∷ back))
column_put column image want slot word r front back spans below own m h =
    let room = spans.words in
    holds_put (λ s. slice_index (slice_set image (cell_of column slot) word) (cell_of column s)) want slot r front back
    (column_other column image want slot word (front ++ back) m h)
    (get_or-set_same image (cell_of column slot) word 0 (omega (arith, room, below)) ∙ own)

-- words of others
pub column_apart : {A : Type 0} (column : Column) (image words : List ℕ) (want : A → ℕ) (es : List (ℕ × A))
    → ((q : ℕ) → column.start ≤ q → q < column.start + column.slots → slice_index words q ≡ slice_index image q)
    → Within column.slots (slots_in es) → Holds (λ s. slice_index image (cell_of column s)) want es
    → Holds (λ s. slice_index words (cell_of column s)) want es
column_apart column image words want es f w h =
    holds_kept (λ s. slice_index image (cell_of column s)) (λ s. slice_index words (cell_of column s)) want column.slots es
    (λ s l. f (cell_of column s) (omega arith) (omega (arith, l))) w h
