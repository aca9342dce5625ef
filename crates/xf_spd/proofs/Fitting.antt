-- What a pool that fits takes back, and that a new one fits.
use Rattle.std.proofs.Common.{◌≡◌, ℕ, Bool, true, List, [], ◌∷◌, ◌++◌, Option, None, Some, length, refl, ap, sym, ◌∙◌, subst, rules}
use Rattle.xf_types.specs.declared.policy.Policy.{Policy}
use Rattle.xf_types.specs.declared.policy.PolicyKey.{PolicyKey}
use Rattle.xf_types.specs.Machine.{Shown}
use Rattle.xf_types.specs.PolicyList.{has_key}
use Rattle.xf_cells.specs.Pools.{IsFull}
use Rattle.xf_cells.specs.Words.{zeros}
use Rattle.xf_chain.specs.Lists.{Misses}
use Rattle.xf_index.specs.Indexes.{slots_in}
use Rattle.xf_index.specs.Finds.{found_in, slot_found, Found}
use Rattle.xf_index.proofs.Entries.{slots_append}
use Rattle.xf_index.proofs.Finds.{found_splits}
use Rattle.xf_image.specs.declared.area.PolicyArea.{PolicyArea}
use Rattle.xf_image.specs.Entries.{IsEntry}
use Rattle.xf_inexact.specs.Whole.{SpdStands}
use Rattle.xf_image.specs.Readings.{listed_in}
use Rattle.xf_image.proofs.Empties.{zeros_stand}
use Rattle.xf_image.proofs.Listed.{listed_is}
use Rattle.xf_listing.specs.Calls.{slot_named}
use Rattle.xf_spd.specs.Slots.{is_in, PoolFits, Where}
use Rattle.xf_listing.proofs.Named.{slot_named_is}
use Rattle.xf_spd.proofs.Pools.{in_between}

pub entry_back : (a : PolicyArea) (image : List ℕ) (s : Shown) (es : List (ℕ × Policy)) (all out : ℕ) (gives takes : ℕ → Type 0) (slot : ℕ) (p : Policy) → SpdStands a image s es
    → PoolFits all out gives takes a.slots (listed_in a image) → IsEntry es slot p → takes slot
entry_back a image s es all out gives takes slot p g fits is =
    let e : listed_in a image ≡ slots_in is.front ++ (slot ∷ slots_in is.behind) =
    listed_is a image s es g.list ∙ (ap (λ (xs : List (ℕ × Policy)). slots_in xs) is.whole ∙ slots_append is.front ((slot, p) ∷ is.behind)) in
    fits.back slot (subst (λ (xs : List ℕ). is_in slot xs ≡ true) (sym e) (in_between (slots_in is.front) (slots_in is.behind) slot))

found_back : (a : PolicyArea) (image : List ℕ) (s : Shown) (es : List (ℕ × Policy)) (all out : ℕ) (gives takes : ℕ → Type 0) (test : Policy → Bool) (o : Option (ℕ × Policy)) → found_in test es ≡ o
    → SpdStands a image s es → PoolFits all out gives takes a.slots (listed_in a image) → Where takes (slot_found o)
found_back a image s es all out gives takes test None e g fits = search rules
found_back a image s es all out gives takes test (Some x) e g fits =
    let f : Found test x.0 x.1 es = found_splits test es x.0 x.1 e in
    entry_back a image s es all out gives takes x.0 x.1 g fits (record { front = f.front; behind = f.back; whole = f.whole })

pub named_back : (a : PolicyArea) (image : List ℕ) (s : Shown) (es : List (ℕ × Policy)) (all out : ℕ) (gives takes : ℕ → Type 0) (key : PolicyKey) → SpdStands a image s es
    → PoolFits all out gives takes a.slots (listed_in a image) → Where takes (slot_named a image key)
named_back a image s es all out gives takes key g fits =
    subst (λ (o : Option ℕ). Where takes o) (sym (slot_named_is a image s es key g))
    (found_back a image s es all out gives takes (has_key key) (found_in (has_key key) es) refl g fits)

pub new_fits : (a : PolicyArea) (n all out : ℕ) (gives takes : ℕ → Type 0) → IsFull a.slots all out gives → PoolFits all out gives takes a.slots (listed_in a (zeros n))
new_fits a n all out gives takes full =
    let e : listed_in a (zeros n) ≡ [] = listed_is a (zeros n) _ [] (zeros_stand a n 0) in
    record {
      capacity = full.room;
      taken = full.none ∙ ap (λ (xs : List ℕ). length xs) (sym e);
      below = full.only;
      free = λ x h. subst (λ (xs : List ℕ). Misses x xs) (sym e) (search rules);
      back = λ x h. let k : is_in x [] ≡ true = ap (λ (xs : List ℕ). is_in x xs) (sym e) ∙ h in absurd (cc);
    }
