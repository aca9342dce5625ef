-- A split writes words of its family alone, in any words.
use Rattle.std.proofs.Common.{◌≡◌, ℕ, zero, suc, ◌+◌, ◌<◌, ◌≤◌, Bool, true, false, List, Option, None, Some, length, refl, ◌∙◌, arith, rules, slice_index}
use Rattle.xf_chain.specs.declared.chain.Chain.{Chain}
use Rattle.xf_chain.specs.declared.family.Family.{Family}
use Rattle.xf_chain.specs.Chains.{Below, first_in, next_in, place_of}
use Rattle.xf_chain.specs.Families.{chain_at, Lays, Outside, taken_out}
use Rattle.xf_chain.proofs.Walks.{slot_below}
use Rattle.xf_index.proofs.Frames.{put_outside, taken_outside, put_length, taken_length}
use Rattle.xf_doubling.specs.Splits.{either, moved_one, split_from, split_of, goes_at}

below_either : (n : ℕ) (b : Bool) (x y : Option ℕ) → Below n x → Below n y → Below n (either b x y)
below_either n true x y h k = h
below_either n false x y h k = k

module _ (family : Family) (a b : ℕ) (moves : List ℕ → ℕ → Bool) where
  -- the words after one turn
  abbrev turned : ℕ → Option ℕ → Option ℕ → List ℕ → Bool → List ℕ
  turned slot last other words k = either k (moved_one (chain_at family a) (chain_at family b) slot last other words) words

  turned_length : (slot : ℕ) (last other : Option ℕ) (words : List ℕ) (k : Bool) → length (turned slot last other words k) ≡ length words
  turned_length slot last other words true =
      put_length family (taken_out family words (Some a) last slot) (Some b) other slot ∙ taken_length family words (Some a) last slot
  turned_length slot last other words false = refl

  pub from_length : (left : ℕ) (at last other : Option ℕ) (words : List ℕ)
      → length (split_from (chain_at family a) (chain_at family b) moves left at last other words) ≡ length words
  from_length zero at last other words = refl
  from_length (suc left) None last other words = refl
  from_length (suc left) (Some slot) last other words =
      from_length left (next_in (chain_at family a) words slot) (either (moves words slot) last (Some slot)) (either (moves words slot) (Some slot) other)
      (turned slot last other words (moves words slot))
      ∙ turned_length slot last other words (moves words slot)

  module _ (size : ℕ) (lays : Lays family size) (na : a < family.count) (nb : b < family.count) (q : ℕ) (out : Outside family q) where
    turned_outside : (slot : ℕ) (last other : Option ℕ) (words : List ℕ) (k : Bool) → slot < family.slots → Below family.slots last → Below family.slots other
        → slice_index (turned slot last other words k) q ≡ slice_index words q
    turned_outside slot last other words true s l o =
        put_outside family (taken_out family words (Some a) last slot) size (Some b) other slot q lays nb o s out
        ∙ taken_outside family words size (Some a) last slot q lays na l out
    turned_outside slot last other words false s l o = refl

    pub from_outside : (left : ℕ) (at last other : Option ℕ) (words : List ℕ) → Below family.slots at → Below family.slots last → Below family.slots other
        → slice_index (split_from (chain_at family a) (chain_at family b) moves left at last other words) q ≡ slice_index words q
    from_outside zero at last other words s l o = refl
    from_outside (suc left) None last other words s l o = refl
    from_outside (suc left) (Some slot) last other words s l o =
        from_outside left (next_in (chain_at family a) words slot) (either (moves words slot) last (Some slot)) (either (moves words slot) (Some slot) other)
        (turned slot last other words (moves words slot))
        (slot_below family.slots (slice_index words (place_of (chain_at family a) slot)))
        (below_either family.slots (moves words slot) last (Some slot) l s) (below_either family.slots (moves words slot) (Some slot) other s o)
        ∙ turned_outside slot last other words (moves words slot) s l o

pub split_length : (family : Family) (half moved : ℕ) (key : List ℕ → ℕ → Option ℕ) (image : List ℕ) → length (split_of family half moved key image) ≡ length image
split_length family half moved key image =
    from_length family moved (half + moved) (goes_at half moved key) family.slots (first_in (chain_at family moved) image) None None image

pub split_outside : (family : Family) (half moved : ℕ) (key : List ℕ → ℕ → Option ℕ) (image : List ℕ) (size q : ℕ) → Lays family size → half + half ≤ family.count → moved < half
    → Outside family q → slice_index (split_of family half moved key image) q ≡ slice_index image q
split_outside family half moved key image size q lays room l out =
    from_outside family moved (half + moved) (goes_at half moved key) size lays (omega (arith, l, room)) (omega (arith, l, room)) q out family.slots
    (first_in (chain_at family moved) image) None None image (slot_below family.slots (slice_index image (family.heads + moved))) (search rules) (search rules)
