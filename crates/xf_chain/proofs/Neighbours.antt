-- Which slot comes after another, and which one before it.
use Rattle.std.proofs.Common.{◌≡◌, ℕ, List, [], ◌∷◌, ◌++◌, None, ap, sym, ◌∙◌, slice_index}
use Rattle.xf_chain.specs.declared.chain.Chain.{Chain}
use Rattle.xf_chain.specs.Chains.{slot_of, place_of, from_of, first_in, next_in, slots_of}
use Rattle.xf_chain.specs.Lists.{Path, IsChain, last_of, first_of}
use Rattle.xf_chain.specs.Families.{last_while, is_other}
use Rattle.xf_chain.proofs.Slots.{misses_apart}
use Rattle.xf_chain.proofs.Places.{last_place, from_is}
use Rattle.xf_chain.proofs.Walks.{chain_walk}
use Rattle.xf_chain.proofs.Stops.{last_before}

path_first : (c : Chain) (image : List ℕ) (from : ℕ) (xs : List ℕ) → Path c image from xs → slot_of c.slots (slice_index image from) ≡ first_of xs
path_first c image from [] p = p
path_first c image from (x ∷ xs) p = p.0

path_next : (c : Chain) (image : List ℕ) (from slot : ℕ) (front back : List ℕ) → Path c image from (front ++ (slot ∷ back)) → next_in c image slot ≡ first_of back
path_next c image from slot [] back p = path_first c image (place_of c slot) back p.1
path_next c image from slot (x ∷ front) back p = path_next c image (place_of c x) slot front back p.1

-- the head names the first slot
pub chain_first : (c : Chain) (image xs : List ℕ) → IsChain c image xs → first_in c image ≡ first_of xs
chain_first c image xs is = path_first c image c.head xs is.path

-- the link of a slot names the one after it
pub chain_next : (c : Chain) (image front back : List ℕ) (slot : ℕ) → IsChain c image (front ++ (slot ∷ back)) → next_in c image slot ≡ first_of back
chain_next c image front back slot is = path_next c image c.head slot front back is.path

path_following : (c : Chain) (image : List ℕ) (from : ℕ) (front back : List ℕ) → Path c image from (front ++ back)
    → slot_of c.slots (slice_index image (last_place c from front)) ≡ first_of back
path_following c image from [] back p = path_first c image from back p
path_following c image from (x ∷ front) back p = path_following c image (place_of c x) front back p.1

-- after the front the back comes
pub chain_following : (c : Chain) (image front back : List ℕ) → IsChain c image (front ++ back)
    → slot_of c.slots (slice_index image (from_of c (last_of front))) ≡ first_of back
chain_following c image front back is =
    ap (λ place. slot_of c.slots (slice_index image place)) (sym (from_is c front)) ∙ path_following c image c.head front back is.path

-- the walk to a slot ends at the one before it
pub chain_before : (c : Chain) (image front back : List ℕ) (slot : ℕ) → IsChain c image (front ++ (slot ∷ back))
    → last_while (is_other slot) None (slots_of c image) ≡ last_of front
chain_before c image front back slot is =
    ap (λ xs. last_while (is_other slot) None xs) (chain_walk c image (front ++ (slot ∷ back)) is) ∙ last_before slot front back (misses_apart slot front back is.apart)
