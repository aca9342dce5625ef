-- What reading calls answer where the words stand for a policy list.
use Rattle.std.proofs.Common.{◌≡◌, ℕ, zero, suc, ◌-◌, ◌<◌, ◌^◌, ◌==◌, Bool, false, cond, List, [], ◌∷◌, ◌++◌, None, Some, length, refl, ap, ◌∙◌, arith}
use Rattle.std.proofs.lemmas.Bool.Decides.{nat_tests}
use Rattle.std.specs.List.{slice_get}
use Rattle.xf_types.specs.declared.policy.Policy.{Policy}
use Rattle.xf_types.specs.Machine.{Shown}
use Rattle.xf_types.specs.IsMachine.{IsInRoom, IsInRange}
use Rattle.xf_index.specs.Indexes.{slots_in, records_in, Holds}
use Rattle.xf_chain.specs.Families.{chain_at}
use Rattle.xf_index.proofs.Holds.{holds_back}
use Rattle.xf_image.specs.Placing.{following}
use Rattle.xf_chain.specs.Lists.{first_of}
use Rattle.xf_index.proofs.Neighbours.{all_following, all_next}
use Rattle.xf_image.specs.Policies.{everyone}
use Rattle.xf_image.specs.declared.area.PolicyArea.{PolicyArea}
use Rattle.xf_image.specs.Layout.{order_of, record_at}
use Rattle.xf_image.specs.Policies.{PoliciesStand}
use Rattle.xf_image.specs.Readings.{next_index_in, next_number_in, hthresh4_in, hthresh6_in, listed_in}
use Rattle.xf_image.proofs.Listed.{listed_is}
use Rattle.xf_exact.proofs.PartLaws.{stand_tell}
use Rattle.xf_listing.specs.Header.{count_in}
use Rattle.xf_listing.specs.Walks.{nth_on}

-- the header

pub count_is : (a : PolicyArea) (image : List ℕ) (s : Shown) (es : List (ℕ × Policy)) → IsInRoom s → PoliciesStand a image s es → count_in a image ≡ length s.policies
count_is a image s es room g = let c = g.counters.count in let r = g.room in let f = room.policies in omega (arith, c, r, f)

pub next_index_is : (a : PolicyArea) (image : List ℕ) (s : Shown) (es : List (ℕ × Policy)) → IsInRange s → PoliciesStand a image s es → next_index_in a image ≡ s.next_index
next_index_is a image s es range g = let c = g.counters.next_index in let r = range.index_counter.1 in omega (arith, c, r)

pub next_number_is : (a : PolicyArea) (image : List ℕ) (s : Shown) (es : List (ℕ × Policy)) → s.next_number < 2 ^ 63 → PoliciesStand a image s es → next_number_in a image ≡ s.next_number
next_number_is a image s es small g = let c = g.counters.next_number in omega (arith, c, small)

pub hthresh4_is : (a : PolicyArea) (image : List ℕ) (s : Shown) (es : List (ℕ × Policy)) → PoliciesStand a image s es → hthresh4_in a image ≡ s.hthresh4
hthresh4_is a image s es g = (stand_tell a image s g.counters).v4

pub hthresh6_is : (a : PolicyArea) (image : List ℕ) (s : Shown) (es : List (ℕ × Policy)) → PoliciesStand a image s es → hthresh6_in a image ≡ s.hthresh6
hthresh6_is a image s es g = (stand_tell a image s g.counters).v6

-- the list

nth_slots : (a : PolicyArea) (image : List ℕ) (place : ℕ) (es : List (ℕ × Policy)) → Holds (λ x. record_at a image x) (λ p. Some p) es
    → nth_on a image place (slots_in es) ≡ slice_get (records_in es) place
nth_slots a image place [] h = refl
nth_slots a image zero (e ∷ es) h = h.0
nth_slots a image (suc n) (e ∷ es) h =
    let m : suc n - 1 ≡ n = omega arith in
    let z : (suc n == 0) ≡ false = grind (arith, nat_tests) in
    ap (λ (b : Bool). cond b (record_at a image e.0) (nth_on a image (suc n - 1) (slots_in es))) z
    ∙ (ap (λ (k : ℕ). nth_on a image k (slots_in es)) m ∙ nth_slots a image n es h.1)

pub nth_is : (a : PolicyArea) (image : List ℕ) (place : ℕ) (s : Shown) (es : List (ℕ × Policy)) → PoliciesStand a image s es
    → nth_on a image place (listed_in a image) ≡ slice_get s.policies place
nth_is a image place s es g =
    ap (λ (xs : List ℕ). nth_on a image place xs) (listed_is a image s es g)
    ∙ (nth_slots a image place es g.columns.records
    ∙ ap (λ (ps : List Policy). slice_get ps place) g.listed)

pub first_slot_is : (a : PolicyArea) (image : List ℕ) (s : Shown) (es : List (ℕ × Policy)) → PoliciesStand a image s es
    → following (chain_at (order_of a) 0) image None ≡ first_of (slots_in es)
first_slot_is a image s es g = all_following (order_of a) image everyone [] es (λ p. refl) (omega arith) g.links.order

pub next_slot_is : (a : PolicyArea) (image : List ℕ) (s : Shown) (slot : ℕ) (front back : List (ℕ × Policy)) (p : Policy) → PoliciesStand a image s (front ++ ((slot, p) ∷ back))
    → following (chain_at (order_of a) 0) image (Some slot) ≡ first_of (slots_in back)
next_slot_is a image s slot front back p g = all_next (order_of a) image everyone front back slot p (λ p. refl) (omega arith) g.links.order

pub policy_is : (a : PolicyArea) (image : List ℕ) (s : Shown) (slot : ℕ) (front back : List (ℕ × Policy)) (p : Policy) → PoliciesStand a image s (front ++ ((slot, p) ∷ back))
    → record_at a image slot ≡ Some p
policy_is a image s slot front back p g =
    (holds_back (λ x. record_at a image x) (λ q. Some q) front ((slot, p) ∷ back) g.columns.records).0
