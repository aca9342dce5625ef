-- Chains in words: which slots a chain passes, and what a change writes.
use Rattle.std.specs.Prelude.{◌≡◌, ℕ, zero, suc, ◌+◌, ◌-◌, ◌*◌, ◌^◌, ◌<◌, ◌||◌, ◌==◌, nat_lt, if◌then◌else◌, List, [], ◌∷◌, Option, None, Some, ⊤, slice_index, slice_set}
use Rattle.xf_chain.specs.declared.chain.Chain.{Chain}

-- the place of a slot's link
abbrev pub place_of : Chain → ℕ → ℕ
place_of chain slot = chain.link + chain.stride * slot

-- The words of a chain lie in so many words.
pub record Lies (chain : Chain) (size : ℕ) : Type 0 where
  pub head : chain.head < size
  pub links : (slot : ℕ) → slot < chain.slots → place_of chain slot < size
  pub fits : chain.link + chain.stride * chain.slots < 2 ^ 32

-- a slot, where there is one, is one of so many
abbrev pub Below : ℕ → Option ℕ → Type 0
Below slots None = ⊤
Below slots (Some slot) = slot < slots

-- the slot that a word names
abbrev pub slot_of : ℕ → ℕ → Option ℕ
slot_of slots word = if (word == 0) || nat_lt slots word then None else Some (word - 1)

-- the slot that the head names
abbrev pub first_in : Chain → List ℕ → Option ℕ
first_in chain image = slot_of chain.slots (slice_index image chain.head)

-- the slot that the link of a slot names
abbrev pub next_in : Chain → List ℕ → ℕ → Option ℕ
next_in chain image slot = slot_of chain.slots (slice_index image (place_of chain slot))

-- the slots that a chain passes from one on, in so many turns at most
abbrev pub slots_from : Chain → List ℕ → ℕ → Option ℕ → List ℕ
slots_from chain image zero at = []
slots_from chain image (suc left) None = []
slots_from chain image (suc left) (Some slot) = slot ∷ slots_from chain image left (next_in chain image slot)

-- the slots that a chain passes
abbrev pub slots_of : Chain → List ℕ → List ℕ
slots_of chain image = slots_from chain image chain.slots (first_in chain image)

-- the place of the link to what comes after a slot, or at the front
abbrev pub from_of : Chain → Option ℕ → ℕ
from_of chain None = chain.head
from_of chain (Some slot) = place_of chain slot

-- the words after a slot was put after another
abbrev pub inserted : Chain → List ℕ → Option ℕ → ℕ → List ℕ
inserted chain image after slot = slice_set (slice_set image (place_of chain slot) (slice_index image (from_of chain after))) (from_of chain after) (slot + 1)

-- the words after the slot after another was taken out
abbrev pub unlinked : Chain → List ℕ → Option ℕ → ℕ → List ℕ
unlinked chain image after slot = slice_set image (from_of chain after) (slice_index image (place_of chain slot))

-- what comes next is the front of the slots, and the others are left
abbrev pub Steps : Option ℕ → List ℕ → List ℕ → Type 0
Steps None slots left = slots ≡ []
Steps (Some slot) slots left = slots ≡ slot ∷ left
