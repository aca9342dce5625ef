-- What a policy that comes in or goes makes of a part.
use Rattle.std.proofs.Common.{◌≡◌, ℕ, ◌<◌, true, false, not, List, ◌∷◌, ◌++◌, Option, length, slice_index, ap, sym, ◌∙◌, subst}
use Rattle.xf_types.specs.declared.policy.Policy.{Policy}
use Rattle.xf_types.specs.PolicyList.{comes_after}
use Rattle.xf_chain.specs.declared.family.Family.{Family}
use Rattle.xf_chain.specs.Chains.{Below}
use Rattle.xf_chain.specs.Families.{Lays, IsOf, Outside, put_in, taken_out}
use Rattle.xf_chain.specs.Lists.{Misses, Apart}
use Rattle.xf_index.specs.Indexes.{slots_in, Indexed, AllAre}
use Rattle.xf_index.proofs.Frames.{put_outside, taken_outside}
use Rattle.xf_index.proofs.Puts.{indexed_put}
use Rattle.xf_index.proofs.Takes.{indexed_taken}
use Rattle.xf_image.specs.declared.area.PolicyArea.{PolicyArea}
use Rattle.xf_image.specs.ExactKeys.{exact_key}
use Rattle.xf_image.specs.Placing.{place_in, before_in}
use Rattle.xf_image.specs.Policies.{ColumnsStand}
use Rattle.xf_image.specs.Readings.{hthresh6_in}
use Rattle.xf_exact.specs.Parts.{Tells, exact_key_in, with_slot, without_slot}
use Rattle.xf_image.proofs.Placed.{before_found}
use Rattle.xf_exact.proofs.PlacingLaws.{place_is}

-- the chain of a policy under the thresholds that the words tell
pub same_exact_key : (a : PolicyArea) (image : List ℕ) (h4 h6 : ℕ × ℕ) (p : Policy) → Tells a image h4 h6 → exact_key h4 h6 p ≡ exact_key_in a image p
same_exact_key a image h4 h6 p t =
    sym (ap (λ h. exact_key h (hthresh6_in a image) p) t.v4 ∙ ap (λ h. exact_key h4 h p) t.v6)

-- a policy that is put into its chain stands there between those before it and those after it, and all other chains stay
pub part_put : (a : PolicyArea) (image words : List ℕ) (n : ℕ) (family : Family) (key : Policy → Option ℕ) (number : Option ℕ) (slot : ℕ)
    (p : Policy) (front back : List (ℕ × Policy)) → words ≡ with_slot a image family number slot p → length image ≡ n → Lays family n
    → slot < family.slots → IsOf family number → key p ≡ number → ColumnsStand a image (front ++ back)
    → Misses slot (slots_in (front ++ back)) → Apart (slots_in (front ++ back))
    → AllAre (λ q. not (comes_after q p)) true front → AllAre (λ q. not (comes_after q p)) false back
    → Indexed family image key (front ++ back) → Indexed family words key (front ++ ((slot, p) ∷ back))
part_put a image words n family key number slot p front back w size lays below of own s m apart x y is =
    subst (λ i. Indexed family i key (front ++ ((slot, p) ∷ back)))
    (sym (w ∙ ap (λ after. put_in family image number after slot) (place_is a image family key p front back number of is s x y)))
    (indexed_put family image key front back slot p number own (subst (λ k. Lays family k) (sym size) lays) below of m apart is)

-- one that is taken out of its chain is gone, and all other chains stay
pub part_taken : (image words : List ℕ) (n : ℕ) (family : Family) (key : Policy → Option ℕ) (number : Option ℕ) (slot : ℕ) (p : Policy)
    (front back : List (ℕ × Policy)) → words ≡ without_slot image family number slot → length image ≡ n → Lays family n
    → IsOf family number → key p ≡ number → Apart (slots_in (front ++ ((slot, p) ∷ back)))
    → Indexed family image key (front ++ ((slot, p) ∷ back)) → Indexed family words key (front ++ back)
part_taken image words n family key number slot p front back w size lays of own apart is =
    subst (λ i. Indexed family i key (front ++ back))
    (sym (w ∙ ap (λ after. taken_out family image number after slot) (before_found image family key slot p front back number of own is)))
    (indexed_taken family image key front back slot p number own (subst (λ k. Lays family k) (sym size) lays) of apart is)

-- no other words change
pub put_leaves : (a : PolicyArea) (image words : List ℕ) (n : ℕ) (family : Family) (number : Option ℕ) (slot : ℕ) (p : Policy) (q : ℕ)
    → words ≡ with_slot a image family number slot p → Lays family n → slot < family.slots → IsOf family number
    → Below family.slots (place_in a image p family number) → Outside family q → slice_index words q ≡ slice_index image q
put_leaves a image words n family number slot p q w lays below of place out =
    ap (λ i. slice_index i q) w ∙ put_outside family image n number (place_in a image p family number) slot q lays of place below out

pub taken_leaves : (image words : List ℕ) (n : ℕ) (family : Family) (number : Option ℕ) (slot q : ℕ)
    → words ≡ without_slot image family number slot → Lays family n → IsOf family number
    → Below family.slots (before_in image slot family number) → Outside family q → slice_index words q ≡ slice_index image q
taken_leaves image words n family number slot q w lays of place out =
    ap (λ i. slice_index i q) w ∙ taken_outside family image n number (before_in image slot family number) slot q lays of place out
