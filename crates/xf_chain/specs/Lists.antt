-- When a chain is a list of slots.
use Rattle.std.specs.Prelude.{◌≡◌, ◌≢◌, ℕ, ◌<◌, List, [], ◌∷◌, Option, None, Some, ⊤, slice_index}
use Rattle.xf_chain.specs.declared.chain.Chain.{Chain}
use Rattle.xf_chain.specs.Chains.{slot_of, place_of}

-- from the link at a place on, just these slots come
abbrev pub Path : Chain → List ℕ → ℕ → List ℕ → Type 0
Path chain image from [] = slot_of chain.slots (slice_index image from) ≡ None
Path chain image from (slot ∷ slots) = (slot_of chain.slots (slice_index image from) ≡ Some slot) × Path chain image (place_of chain slot) slots

-- a slot isn't in a list
abbrev pub Misses : ℕ → List ℕ → Type 0
Misses slot [] = ⊤
Misses slot (other ∷ others) = (slot ≢ other) × Misses slot others

-- no slot comes twice
abbrev pub Apart : List ℕ → Type 0
Apart [] = ⊤
Apart (slot ∷ slots) = Misses slot slots × Apart slots

-- each slot is one of so many
abbrev pub Within : ℕ → List ℕ → Type 0
Within count [] = ⊤
Within count (slot ∷ slots) = (slot < count) × Within count slots

-- The slots of the chain in these words are this list, each once.
pub record IsChain (chain : Chain) (image : List ℕ) (slots : List ℕ) : Type 0 where
  pub path : Path chain image chain.head slots
  pub apart : Apart slots
  pub within : Within chain.slots slots

-- The words of a chain are apart from one another.
pub record Spread (chain : Chain) : Type 0 where
  pub stride : 0 < chain.stride
  pub head : (slot : ℕ) → slot < chain.slots → place_of chain slot ≢ chain.head

-- the first of a list, where it has one
abbrev pub first_of : List ℕ → Option ℕ
first_of [] = None
first_of (slot ∷ slots) = Some slot

-- the last of a list that begins with a slot
abbrev pub last_from : ℕ → List ℕ → ℕ
last_from slot [] = slot
last_from slot (other ∷ others) = last_from other others

-- the last of a list, where it has one
abbrev pub last_of : List ℕ → Option ℕ
last_of [] = None
last_of (slot ∷ slots) = Some (last_from slot slots)
