-- Where a policy goes, and where it stands: what walks along the chains tell of any words, before any word is written.
use Rattle.std.specs.Prelude.{ℕ, ◌%◌, ◌<◌, ◌==◌, Bool, not, ◌&&◌, ◌||◌, nat_lt, List, Option, None, Some, find, slice_index}
use Rattle.xf_types.specs.declared.policy.Policy.{Policy}
use Rattle.xf_chain.specs.declared.chain.Chain.{Chain}
use Rattle.xf_chain.specs.declared.family.Family.{Family}
use Rattle.xf_chain.specs.Chains.{Below, slots_of, first_in, next_in}
use Rattle.xf_chain.specs.Families.{chain_at, IsOf, last_while, is_other}
use Rattle.xf_image.specs.declared.area.PolicyArea.{PolicyArea}
use Rattle.xf_image.specs.declared.places.Places.{Places}
use Rattle.xf_image.specs.Layout.{order_of, back_of, exact_of, indices_of, priority_place, number_place}
use Rattle.xf_image.specs.ExactKeys.{exact_key}

-- a policy of this priority and number is asked after another one: by priority, then by number
abbrev pub comes : ℕ → ℕ → ℕ → ℕ → Bool
comes priority number other_priority other_number =
    nat_lt other_priority priority || ((priority == other_priority) && nat_lt other_number number)

-- the policy in a slot isn't asked after one of this priority and number
abbrev pub stays_before : PolicyArea → List ℕ → ℕ → ℕ → ℕ → Bool
stays_before a image priority number slot =
    not (comes (slice_index image (priority_place a slot)) (slice_index image (number_place a slot)) priority number)

-- the slot that comes after another one, or the first where there is no other
abbrev pub following : Chain → List ℕ → Option ℕ → Option ℕ
following chain image None = first_in chain image
following chain image (Some slot) = next_in chain image slot

-- ---- a new policy

-- the slot before it in the list: from the last one back, the first that isn't asked after it
abbrev pub place_in_order : PolicyArea → List ℕ → Policy → Option ℕ
place_in_order a image p = find (stays_before a image p.spec.priority p.number) (slots_of (chain_at (back_of a) 0) image)

-- the slot before it in the chain with a number, where it has one: the last before the first that is asked after it
abbrev pub place_in : PolicyArea → List ℕ → Policy → Family → Option ℕ → Option ℕ
place_in a image p b None = None
place_in a image p b (Some number) =
    last_while (stays_before a image p.spec.priority p.number) None (slots_of (chain_at b number) image)

-- the row of an index
abbrev pub row_of : Policy → ℕ
row_of p = p.index % 1024

-- where it goes, under these thresholds
abbrev pub places_for : PolicyArea → List ℕ → ℕ × ℕ → ℕ × ℕ → Policy → Places
places_for a image h4 h6 p = record {
  order = place_in_order a image p;
  back = following (chain_at (order_of a) 0) image (place_in_order a image p);
  bucket = exact_key h4 h6 p;
  exact = place_in a image p (exact_of a) (exact_key h4 h6 p);
  row = row_of p;
  indices = place_in a image p (indices_of a) (Some (row_of p));
}

-- ---- a listed policy

-- the slot before another one in the chain with a number, where it has one
abbrev pub before_in : List ℕ → ℕ → Family → Option ℕ → Option ℕ
before_in image slot b None = None
before_in image slot b (Some number) = last_while (is_other slot) None (slots_of (chain_at b number) image)

-- where the policy in a slot stands, under these thresholds
abbrev pub places_of : PolicyArea → List ℕ → ℕ × ℕ → ℕ × ℕ → Policy → ℕ → Places
places_of a image h4 h6 p slot = record {
  order = following (chain_at (back_of a) 0) image (Some slot);
  back = following (chain_at (order_of a) 0) image (Some slot);
  bucket = exact_key h4 h6 p;
  exact = before_in image slot (exact_of a) (exact_key h4 h6 p);
  row = row_of p;
  indices = before_in image slot (indices_of a) (Some (row_of p));
}

-- places are slots and chains of the area
pub record ArePlaces (a : PolicyArea) (p : Places) : Type 0 where
  pub order : Below a.slots p.order
  pub back : Below a.slots p.back
  pub bucket : IsOf (exact_of a) p.bucket
  pub exact : Below a.slots p.exact
  pub row : p.row < 1024
  pub indices : Below a.slots p.indices
