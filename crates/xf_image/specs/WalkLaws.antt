-- The walk from the last policy back, while each one that it passes is put into its new chain.
use Rattle.std.specs.Prelude.{◌≡◌, ℕ, ◌<◌, List, [], ◌∷◌, Option}
use Rattle.xf_chain.specs.declared.chain.Chain.{Chain}
use Rattle.xf_chain.specs.Chains.{Below, slots_from, slots_of}
use Rattle.xf_chain.specs.Families.{chain_at}
use Rattle.xf_image.specs.declared.area.PolicyArea.{PolicyArea}
use Rattle.xf_image.specs.Layout.{Fits, back_of}
use Rattle.xf_image.specs.Writes.{cleared, moved, moved_all, set_words}

pub record WalkLaws : Type 0 where
  -- it passes the same slots, since none of its links is written
  pub same : (a : PolicyArea) (h4 h6 : ℕ × ℕ) (image : List ℕ) (n slot left : ℕ) (at : Option ℕ) → Fits a n → slot < a.slots → Below a.slots at
      → slots_from (chain_at (back_of a) 0) (moved a h4 h6 image slot) left at ≡ slots_from (chain_at (back_of a) 0) image left at
  -- at the start all are to be moved, in the words with empty chains
  pub begins : (a : PolicyArea) (h4 h6 : ℕ × ℕ) (image words : List ℕ) (chain : Chain) (left : ℕ) (at : Option ℕ)
      → chain ≡ chain_at (back_of a) 0 → words ≡ cleared a image h4 h6 → slots_from chain words left at ≡ slots_of chain words
      → moved_all a h4 h6 words (slots_from chain words left at) ≡ set_words a image h4 h6
  -- each turn moves one
  pub goes : (a : PolicyArea) (h4 h6 : ℕ × ℕ) (image words target : List ℕ) (n slot left later : ℕ) (at next : Option ℕ) (chain : Chain)
      → chain ≡ chain_at (back_of a) 0 → Fits a n → slot < a.slots → Below a.slots next
      → words ≡ moved a h4 h6 image slot
      → slots_from chain image left at ≡ slot ∷ slots_from chain image later next
      → moved_all a h4 h6 image (slots_from chain image left at) ≡ target
      → moved_all a h4 h6 words (slots_from chain words later next) ≡ target
  -- at the end none is left
  pub ends : (a : PolicyArea) (h4 h6 : ℕ × ℕ) (image target slots : List ℕ) → slots ≡ [] → moved_all a h4 h6 image slots ≡ target → image ≡ target
