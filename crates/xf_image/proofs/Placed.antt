-- The walks stop where the policy goes, and where it stands.
use Rattle.std.proofs.Common.{◌≡◌, ℕ, true, false, not, List, ◌∷◌, ◌++◌, Option, None, Some, refl, ap, sym, ◌∙◌, arith, slice_index}
use Rattle.xf_types.specs.declared.policy.Policy.{Policy}
use Rattle.xf_types.specs.PolicyList.{comes_after}
use Rattle.xf_chain.specs.declared.chain.Chain.{Chain}
use Rattle.xf_chain.specs.declared.family.Family.{Family}
use Rattle.xf_chain.specs.Chains.{slot_of, from_of}
use Rattle.xf_chain.specs.Lists.{first_of, last_of}
use Rattle.xf_chain.specs.Families.{chain_at, IsOf}
use Rattle.xf_index.specs.Indexes.{slots_in, picked_of, Indexed, Holds, AllAre}
use Rattle.xf_index.proofs.Holds.{holds_two}
use Rattle.xf_index.proofs.Picks.{picked_slots}
use Rattle.xf_index.proofs.Neighbours.{all_following, all_next, all_before}
use Rattle.xf_index.proofs.Walked.{last_walked, before_walked, all_found_back}
use Rattle.xf_image.specs.declared.area.PolicyArea.{PolicyArea}
use Rattle.xf_image.specs.Layout.{order_of, back_of, exact_of, indices_of, priority_place, number_place}
use Rattle.xf_image.specs.ExactKeys.{exact_key}
use Rattle.xf_image.specs.Policies.{everyone, index_key, LinksStand, ColumnsStand}
use Rattle.xf_image.specs.Placing.{comes, stays_before, following, place_in_order, place_in, before_in, row_of, places_for, places_of, ArePlaces}
use Rattle.xf_image.proofs.Linking.{PlacesAre}

-- the columns tell which policies are asked after a new one
pub ranks : (a : PolicyArea) (image : List ℕ) (r : Policy) (es : List (ℕ × Policy)) → ColumnsStand a image es
    → Holds (stays_before a image r.spec.priority r.number) (λ q. not (comes_after q r)) es
ranks a image r es s =
    holds_two (λ x. slice_index image (priority_place a x)) (λ x. slice_index image (number_place a x)) (λ q. q.spec.priority) (λ q. q.number)
    (λ k m. not (comes k m r.spec.priority r.number)) es s.priorities s.numbers

-- a walk for the place of a policy stops behind those that are asked before it
pub place_found : (a : PolicyArea) (image : List ℕ) (b : Family) (key : Policy → Option ℕ) (r : Policy) (front back : List (ℕ × Policy)) (o : Option ℕ)
    → IsOf b o → Indexed b image key (front ++ back)
    → Holds (stays_before a image r.spec.priority r.number) (λ q. not (comes_after q r)) (front ++ back)
    → AllAre (λ q. not (comes_after q r)) true front → AllAre (λ q. not (comes_after q r)) false back
    → place_in a image r b o ≡ last_of (picked_of key o front)
place_found a image b key r front back None n is h x y = refl
place_found a image b key r front back (Some number) n is h x y =
    last_walked b image key number (stays_before a image r.spec.priority r.number) (λ q. not (comes_after q r)) front back n h x y is

-- a walk to a slot stops at the one before it
pub before_found : (image : List ℕ) (b : Family) (key : Policy → Option ℕ) (slot : ℕ) (r : Policy) (front back : List (ℕ × Policy)) (o : Option ℕ)
    → IsOf b o → key r ≡ o → Indexed b image key (front ++ ((slot, r) ∷ back))
    → before_in image slot b o ≡ last_of (picked_of key o front)
before_found image b key slot r front back None n own is = refl
before_found image b key slot r front back (Some number) n own is = before_walked b image key number front back slot r n own is

following_is : (c : Chain) (image : List ℕ) (after : Option ℕ) → following c image after ≡ slot_of c.slots (slice_index image (from_of c after))
following_is c image None = refl
following_is c image (Some slot) = refl

last_slot : (es : List (ℕ × Policy)) → last_of (slots_in es) ≡ last_of (picked_of everyone (Some 0) es)
last_slot es = ap (λ (xs : List ℕ). last_of xs) (sym (picked_slots everyone es (λ p. refl)))

first_slot : (es : List (ℕ × Policy)) → first_of (slots_in es) ≡ first_of (picked_of everyone (Some 0) es)
first_slot es = ap (λ (xs : List ℕ). first_of xs) (sym (picked_slots everyone es (λ p. refl)))

-- a new policy, between those that are asked before it and those that are asked after it
pub places_for_is : (a : PolicyArea) (image : List ℕ) (h4 h6 : ℕ × ℕ) (r : Policy) (front back : List (ℕ × Policy))
    → ArePlaces a (places_for a image h4 h6 r) → LinksStand a image h4 h6 (front ++ back) → ColumnsStand a image (front ++ back)
    → AllAre (λ q. not (comes_after q r)) true front → AllAre (λ q. not (comes_after q r)) false back
    → PlacesAre h4 h6 (places_for a image h4 h6 r) r front back
places_for_is a image h4 h6 r front back places s columns x y =
    let h : Holds (stays_before a image r.spec.priority r.number) (λ q. not (comes_after q r)) (front ++ back) =
    ranks a image r (front ++ back) columns in
    let o : place_in_order a image r ≡ last_of (slots_in front) =
    all_found_back (back_of a) image everyone (stays_before a image r.spec.priority r.number) (λ q. not (comes_after q r)) front back (λ p. refl) (omega arith) h x y s.back in
    record {
      order = o ∙ last_slot front;
      back_ = following_is (chain_at (order_of a) 0) image (place_in_order a image r)
          ∙ (ap (λ (k : Option ℕ). slot_of a.slots (slice_index image (from_of (chain_at (order_of a) 0) k))) o
          ∙ (all_following (order_of a) image everyone front back (λ p. refl) (omega arith) s.order ∙ first_slot back));
      bucket = refl;
      exact = place_found a image (exact_of a) (exact_key h4 h6) r front back (exact_key h4 h6 r) places.bucket s.exact h x y;
      row = refl;
      indices = place_found a image (indices_of a) index_key r front back (Some (row_of r)) places.row s.indices h x y;
    }

-- a listed policy
pub places_of_is : (a : PolicyArea) (image : List ℕ) (h4 h6 : ℕ × ℕ) (slot : ℕ) (r : Policy) (front back : List (ℕ × Policy))
    → ArePlaces a (places_of a image h4 h6 r slot) → LinksStand a image h4 h6 (front ++ ((slot, r) ∷ back))
    → PlacesAre h4 h6 (places_of a image h4 h6 r slot) r front back
places_of_is a image h4 h6 slot r front back places s = record {
  order = all_before (back_of a) image everyone front back slot r (λ p. refl) (omega arith) s.back ∙ last_slot front;
  back_ = all_next (order_of a) image everyone front back slot r (λ p. refl) (omega arith) s.order ∙ first_slot back;
  bucket = refl;
  exact = before_found image (exact_of a) (exact_key h4 h6) slot r front back (exact_key h4 h6 r) places.bucket refl s.exact;
  row = refl;
  indices = before_found image (indices_of a) index_key slot r front back (Some (row_of r)) places.row refl s.indices;
}
