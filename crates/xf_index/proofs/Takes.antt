-- An index with one entry less.
use Rattle.std.proofs.Common.{◌≡◌, ◌≢◌, ℕ, ◌+◌, ◌<◌, Bool, true, false, List, ◌∷◌, ◌++◌, Option, None, Some, length, refl, ap, sym, ◌∙◌, subst, arith, get_or-set_other, slice_index, ◌==◌}
use Rattle.std.proofs.lemmas.Bool.Decides.{nat_tests}
use Rattle.xf_chain.specs.Chains.{place_of, from_of, unlinked}
use Rattle.xf_chain.specs.Lists.{Apart, IsChain, last_of}
use Rattle.xf_chain.specs.declared.family.Family.{Family}
use Rattle.xf_chain.specs.Families.{chain_at, Lays, IsOf, taken_out}
use Rattle.xf_index.specs.Indexes.{slots_in, is_number, picked, picked_of, Indexed}
use Rattle.xf_chain.proofs.Beside.{chain_beside}
use Rattle.xf_chain.proofs.Places.{Clear}
use Rattle.xf_chain.proofs.Changes.{chain_unlinked}
use Rattle.xf_index.proofs.Picks.{picked_append, is_not_own, picked_own, picked_skip}
use Rattle.xf_index.proofs.Frames.{lays_lies, lays_spread}
use Rattle.xf_index.proofs.Siblings.{Disjoint, disjoint_from, disjoint_front, picked_disjoint, head_not}

taken : {A : Type 0} (family : Family) (image : List ℕ) (key : A → Option ℕ) (front back : List (ℕ × A)) (slot number m : ℕ) (r : A) (t : Bool)
    → (m == number) ≡ t → Lays family (length image) → number < family.count → m < family.count → key r ≡ Some number
    → Apart (slots_in (front ++ ((slot, r) ∷ back)))
    → Indexed family image key (front ++ ((slot, r) ∷ back))
    → IsChain (chain_at family m) (unlinked (chain_at family number) image (last_of (picked key number front)) slot) (picked key m (front ++ back))
taken family image key front back slot number m r true e l n k own apart is =
    let same : number ≡ m = grind (arith, nat_tests) in
    let old : IsChain (chain_at family number) image (picked key number front ++ (slot ∷ picked key number back)) =
    subst (λ (xs : List ℕ). IsChain (chain_at family number) image xs) (picked_own key number slot r front back own) (is.chains number n) in
    let new : IsChain (chain_at family number) (unlinked (chain_at family number) image (last_of (picked key number front)) slot) (picked key number front ++ picked key number back) =
    chain_unlinked (chain_at family number) image (picked key number front) (picked key number back) slot
    (lays_spread family (length image) number l n) (lays_lies family (length image) number l n) old in
    subst (λ (q : ℕ). IsChain (chain_at family q) (unlinked (chain_at family number) image (last_of (picked key number front)) slot) (picked key q (front ++ back))) same
    (subst (λ (xs : List ℕ). IsChain (chain_at family number) (unlinked (chain_at family number) image (last_of (picked key number front)) slot) xs)
    (sym (picked_append key number front back)) new)
taken {A = A} family image key front back slot number m r false e l n k own apart is =
    let other : m ≢ number = grind (arith, nat_tests) in
    let all : List (ℕ × A) = front ++ ((slot, r) ∷ back) in
    let t : ℕ = from_of (chain_at family number) (last_of (picked key number front)) in
    let v : ℕ = slice_index image (place_of (chain_at family number) slot) in
    let skip : picked key m all ≡ picked key m (front ++ back) =
    picked_skip key m slot r front back (ap (λ o. is_number m o) own ∙ is_not_own m number other) in
    let whole : Disjoint (picked key number front ++ (slot ∷ picked key number back)) (picked key m all) =
    subst (λ (xs : List ℕ). Disjoint xs (picked key m all)) (picked_own key number slot r front back own)
    (picked_disjoint key number m all (λ q. other (sym q)) apart) in
    let clear : Clear (chain_at family m) t (picked key m all) =
    disjoint_from family (length image) number m (picked key number front) (picked key m all) l n
    (disjoint_front (picked key number front) (slot ∷ picked key number back) (picked key m all) whole) in
    let j : List ℕ = unlinked (chain_at family number) image (last_of (picked key number front)) slot in
    let head : family.heads + m ≢ t = head_not (picked key number front) family (length image) number m l n k other in
    subst (λ (xs : List ℕ). IsChain (chain_at family m) j xs) skip
    (chain_beside (chain_at family m) image j t t (picked key m all)
    (λ q u w. get_or-set_other image t q v 0 u) head head clear clear (is.chains m k))

pub indexed_taken : {A : Type 0} (family : Family) (image : List ℕ) (key : A → Option ℕ) (front back : List (ℕ × A)) (slot : ℕ) (r : A) (o : Option ℕ)
    → key r ≡ o → Lays family (length image) → IsOf family o
    → Apart (slots_in (front ++ ((slot, r) ∷ back)))
    → Indexed family image key (front ++ ((slot, r) ∷ back))
    → Indexed family (taken_out family image o (last_of (picked_of key o front)) slot) key (front ++ back)
indexed_taken family image key front back slot r None own l n apart is = record {
  chains = λ m k. subst (λ (xs : List ℕ). IsChain (chain_at family m) image xs)
      (picked_skip key m slot r front back (ap (λ o. is_number m o) own)) (is.chains m k);
}
indexed_taken family image key front back slot r (Some number) own l n apart is = record {
  chains = λ m k. taken family image key front back slot number m r (m == number) refl l n k own apart is;
}
