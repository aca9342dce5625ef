-- Places are slots and chains of the area, in any words.
use Rattle.std.proofs.Common.{◌≡◌, ℕ, zero, suc, ◌%◌, ◌<◌, Bool, true, false, cond, List, [], ◌∷◌, Option, None, Some, find, refl, arith, rules, slice_index}
use Rattle.xf_types.specs.declared.policy.Policy.{Policy}
use Rattle.xf_chain.specs.declared.chain.Chain.{Chain}
use Rattle.xf_chain.specs.declared.family.Family.{Family}
use Rattle.xf_chain.proofs.Walks.{slot_below}
use Rattle.xf_chain.specs.Chains.{Below, place_of, first_in, next_in, slots_from, slots_of}
use Rattle.xf_chain.specs.Families.{chain_at, IsOf, last_while, is_other}
use Rattle.xf_chain.specs.Lists.{Within}
use Rattle.xf_image.specs.declared.area.PolicyArea.{PolicyArea}
use Rattle.xf_image.specs.Layout.{order_of, back_of, exact_of, indices_of}
use Rattle.xf_image.specs.ExactKeys.{exact_key}
use Rattle.xf_image.specs.Placing.{stays_before, following, place_in_order, place_in, before_in, row_of, places_for, places_of, ArePlaces}
use Rattle.xf_image.proofs.ExactLaws.{key_below}

either_below : (b : Bool) (n : ℕ) (last rest : Option ℕ) → Below n last → Below n rest → Below n (cond b rest last)
either_below true n last rest h k = k
either_below false n last rest h k = h

last_below : (test : ℕ → Bool) (n : ℕ) (last : Option ℕ) (xs : List ℕ) → Below n last → Within n xs → Below n (last_while test last xs)
last_below test n last [] b w = b
last_below test n last (x ∷ xs) b w = either_below (test x) n last (last_while test (Some x) xs) b (last_below test n (Some x) xs w.0 w.1)

find_below : (test : ℕ → Bool) (n : ℕ) (xs : List ℕ) → Within n xs → Below n (find test xs)
find_below test n [] w = search rules
find_below test n (x ∷ xs) w = either_below (test x) n (find test xs) (Some x) (find_below test n xs w.1) w.0

from_within : (c : Chain) (image : List ℕ) (left : ℕ) (at : Option ℕ) → Below c.slots at → Within c.slots (slots_from c image left at)
from_within c image zero at b = search rules
from_within c image (suc left) None b = search rules
from_within c image (suc left) (Some s) b = (b, from_within c image left (next_in c image s) (slot_below c.slots (slice_index image (place_of c s))))

-- a walk passes slots alone
pub walk_within : (c : Chain) (image : List ℕ) → Within c.slots (slots_of c image)
walk_within c image = from_within c image c.slots (first_in c image) (slot_below c.slots (slice_index image c.head))

pub following_below : (c : Chain) (image : List ℕ) (after : Option ℕ) → Below c.slots (following c image after)
following_below c image None = slot_below c.slots (slice_index image c.head)
following_below c image (Some s) = slot_below c.slots (slice_index image (place_of c s))

place_below : (a : PolicyArea) (image : List ℕ) (r : Policy) (b : Family) (o : Option ℕ) → Below b.slots (place_in a image r b o)
place_below a image r b None = search rules
place_below a image r b (Some n) =
    last_below (stays_before a image r.spec.priority r.number) b.slots None (slots_of (chain_at b n) image) (search rules) (walk_within (chain_at b n) image)

before_below : (image : List ℕ) (slot : ℕ) (b : Family) (o : Option ℕ) → Below b.slots (before_in image slot b o)
before_below image slot b None = search rules
before_below image slot b (Some n) = last_below (is_other slot) b.slots None (slots_of (chain_at b n) image) (search rules) (walk_within (chain_at b n) image)

-- the chains of a policy

exact_of_some : (a : PolicyArea) (o : Option ℕ) → ((k : ℕ) → o ≡ Some k → k < 1024) → IsOf (exact_of a) o
exact_of_some a None f = search rules
exact_of_some a (Some k) f = f k refl

pub exact_is_of : (a : PolicyArea) (h4 h6 : ℕ × ℕ) (p : Policy) → IsOf (exact_of a) (exact_key h4 h6 p)
exact_is_of a h4 h6 p = exact_of_some a (exact_key h4 h6 p) (λ k e. key_below h4 h6 p k e)

row_small : (n : ℕ) → n % 1024 < 1024
row_small n = omega arith

pub places_for_are : (a : PolicyArea) (image : List ℕ) (h4 h6 : ℕ × ℕ) (r : Policy) → ArePlaces a (places_for a image h4 h6 r)
places_for_are a image h4 h6 r = record {
  order = find_below (stays_before a image r.spec.priority r.number) a.slots (slots_of (chain_at (back_of a) 0) image) (walk_within (chain_at (back_of a) 0) image);
  back = following_below (chain_at (order_of a) 0) image (place_in_order a image r);
  bucket = exact_is_of a h4 h6 r;
  exact = place_below a image r (exact_of a) (exact_key h4 h6 r);
  row = row_small r.index;
  indices = place_below a image r (indices_of a) (Some (row_of r));
}

pub places_of_are : (a : PolicyArea) (image : List ℕ) (h4 h6 : ℕ × ℕ) (r : Policy) (slot : ℕ) → ArePlaces a (places_of a image h4 h6 r slot)
places_of_are a image h4 h6 r slot = record {
  order = following_below (chain_at (back_of a) 0) image (Some slot);
  back = following_below (chain_at (order_of a) 0) image (Some slot);
  bucket = exact_is_of a h4 h6 r;
  exact = before_below image slot (exact_of a) (exact_key h4 h6 r);
  row = row_small r.index;
  indices = before_below image slot (indices_of a) (Some (row_of r));
}
