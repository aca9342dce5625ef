-- The walk from the last policy back, while each one that it passes is put into its new chain.
use Rattle.std.proofs.Common.{◌≡◌, ℕ, ◌<◌, List, [], ◌∷◌, Option, ap, sym, ◌∙◌, arith}
use Rattle.xf_chain.specs.declared.chain.Chain.{Chain}
use Rattle.xf_chain.specs.Chains.{Below, place_of, slots_from, slots_of}
use Rattle.xf_chain.specs.Families.{chain_at}
use Rattle.xf_chain.proofs.Walks.{slots_same}
use Rattle.xf_image.specs.declared.area.PolicyArea.{PolicyArea}
use Rattle.xf_image.specs.Layout.{Fits, back_of}
use Rattle.xf_image.specs.Writes.{moved, moved_all, cleared, from_last, set_words}
use Rattle.xf_image.proofs.Moving.{moved_frame}

-- the walk passes the same slots, since none of its links is written
pub walk_moved : (a : PolicyArea) (h4 h6 : ℕ × ℕ) (image : List ℕ) (n slot left : ℕ) (at : Option ℕ) → Fits a n → slot < a.slots → Below a.slots at
    → slots_from (chain_at (back_of a) 0) (moved a h4 h6 image slot) left at ≡ slots_from (chain_at (back_of a) 0) image left at
walk_moved a h4 h6 image n slot left at fits below b =
    slots_same (chain_at (back_of a) 0) image (moved a h4 h6 image slot) left at
    (λ s h. (moved_frame a h4 h6 image n slot fits below).below (place_of (chain_at (back_of a) 0) s) (omega (arith, h))) b

-- at the start all are to be moved, in the words with empty chains
pub walk_begins : (a : PolicyArea) (h4 h6 : ℕ × ℕ) (image words : List ℕ) (chain : Chain) (left : ℕ) (at : Option ℕ)
    → chain ≡ chain_at (back_of a) 0 → words ≡ cleared a image h4 h6 → slots_from chain words left at ≡ slots_of chain words
    → moved_all a h4 h6 words (slots_from chain words left at) ≡ set_words a image h4 h6
walk_begins a h4 h6 image words chain left at ec we se =
    ap (λ (xs : List ℕ). moved_all a h4 h6 words xs) (se ∙ ap (λ (c : Chain). slots_of c words) ec)
    ∙ ap (λ (w : List ℕ). moved_all a h4 h6 w (from_last a w)) we

-- each turn moves one
pub walk_goes : (a : PolicyArea) (h4 h6 : ℕ × ℕ) (image words target : List ℕ) (n slot left left' : ℕ) (at at' : Option ℕ) (chain : Chain)
    → chain ≡ chain_at (back_of a) 0 → Fits a n → slot < a.slots → Below a.slots at'
    → words ≡ moved a h4 h6 image slot
    → slots_from chain image left at ≡ slot ∷ slots_from chain image left' at'
    → moved_all a h4 h6 image (slots_from chain image left at) ≡ target
    → moved_all a h4 h6 words (slots_from chain words left' at') ≡ target
walk_goes a h4 h6 image words target n slot left left' at at' chain ec fits below b we se te =
    let same : slots_from chain words left' at' ≡ slots_from chain image left' at' =
    ap (λ (c : Chain). slots_from c words left' at') ec
    ∙ (ap (λ (w : List ℕ). slots_from (chain_at (back_of a) 0) w left' at') we
    ∙ (walk_moved a h4 h6 image n slot left' at' fits below b
    ∙ ap (λ (c : Chain). slots_from c image left' at') (sym ec))) in
    ap (λ (xs : List ℕ). moved_all a h4 h6 words xs) same
    ∙ (ap (λ (w : List ℕ). moved_all a h4 h6 w (slots_from chain image left' at')) we
    ∙ (sym (ap (λ (xs : List ℕ). moved_all a h4 h6 image xs) se) ∙ te))

-- at the end none is left
pub walk_ends : (a : PolicyArea) (h4 h6 : ℕ × ℕ) (image target slots : List ℕ) → slots ≡ [] → moved_all a h4 h6 image slots ≡ target → image ≡ target
walk_ends a h4 h6 image target slots e h = sym (ap (λ (xs : List ℕ). moved_all a h4 h6 image xs) e) ∙ h
