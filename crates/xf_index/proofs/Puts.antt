-- An index with one entry more.
use Rattle.std.proofs.Common.{◌≡◌, ◌≢◌, ℕ, ◌+◌, ◌<◌, Bool, true, false, List, [], ◌∷◌, ◌++◌, Option, None, Some, length, refl, ap, sym, ◌∙◌, subst, arith, get_or-set_other, slice_index, slice_set, ◌==◌, append-nil}
use Rattle.std.proofs.lemmas.Bool.Decides.{nat_tests}
use Rattle.xf_chain.specs.Chains.{place_of, from_of, inserted}
use Rattle.xf_chain.specs.Lists.{Misses, Apart, IsChain, last_of}
use Rattle.xf_chain.specs.declared.family.Family.{Family}
use Rattle.xf_chain.specs.Families.{chain_at, Lays, IsOf, put_in}
use Rattle.xf_index.specs.Indexes.{slots_in, is_number, picked, picked_of, Indexed}
use Rattle.xf_chain.proofs.Beside.{chain_beside}
use Rattle.xf_chain.proofs.Places.{Clear}
use Rattle.xf_chain.proofs.Changes.{chain_inserted}
use Rattle.xf_index.proofs.Picks.{picked_append, picked_misses, is_not_own, picked_own, picked_skip, first_place}
use Rattle.xf_index.proofs.Frames.{lays_lies, lays_spread}
use Rattle.xf_index.proofs.Siblings.{clear_of, Disjoint, disjoint_from, disjoint_front, picked_disjoint, head_not}

-- one chain of an index, whether it is the one that is changed
changed : {A : Type 0} (family : Family) (image : List ℕ) (key : A → Option ℕ) (front back : List (ℕ × A)) (slot number m : ℕ) (r : A) (t : Bool)
    → (m == number) ≡ t → Lays family (length image) → slot < family.slots → number < family.count → m < family.count → key r ≡ Some number
    → Misses slot (slots_in (front ++ back)) → Apart (slots_in (front ++ back))
    → Indexed family image key (front ++ back)
    → IsChain (chain_at family m) (inserted (chain_at family number) image (last_of (picked key number front)) slot) (picked key m (front ++ ((slot, r) ∷ back)))
changed family image key front back slot number m r true e l s n k own miss apart is =
    let same : number ≡ m = grind (arith, nat_tests) in
    let split : picked key number (front ++ back) ≡ picked key number front ++ picked key number back = picked_append key number front back in
    let old : IsChain (chain_at family number) image (picked key number front ++ picked key number back) =
    subst (λ (xs : List ℕ). IsChain (chain_at family number) image xs) split (is.chains number n) in
    let misses : Misses slot (picked key number front ++ picked key number back) =
    subst (λ (xs : List ℕ). Misses slot xs) split (picked_misses key number slot (front ++ back) miss) in
    let new : IsChain (chain_at family number) (inserted (chain_at family number) image (last_of (picked key number front)) slot) (picked key number front ++ (slot ∷ picked key number back)) =
    chain_inserted (chain_at family number) image (picked key number front) (picked key number back) slot
    (lays_spread family (length image) number l n) (lays_lies family (length image) number l n) s misses old in
    subst (λ (q : ℕ). IsChain (chain_at family q) (inserted (chain_at family number) image (last_of (picked key number front)) slot) (picked key q (front ++ ((slot, r) ∷ back)))) same
    (subst (λ (xs : List ℕ). IsChain (chain_at family number) (inserted (chain_at family number) image (last_of (picked key number front)) slot) xs)
    (sym (picked_own key number slot r front back own)) new)
changed family image key front back slot number m r false e l s n k own miss apart is =
    let other : m ≢ number = grind (arith, nat_tests) in
    let t : ℕ = from_of (chain_at family number) (last_of (picked key number front)) in
    let p : ℕ = place_of (chain_at family number) slot in
    let skip : picked key m (front ++ ((slot, r) ∷ back)) ≡ picked key m (front ++ back) =
    picked_skip key m slot r front back (ap (λ o. is_number m o) own ∙ is_not_own m number other) in
    let whole : Disjoint (picked key number front ++ picked key number back) (picked key m (front ++ back)) =
    subst (λ (xs : List ℕ). Disjoint xs (picked key m (front ++ back))) (picked_append key number front back)
    (picked_disjoint key number m (front ++ back) (λ q. other (sym q)) apart) in
    let clear : Clear (chain_at family m) t (picked key m (front ++ back)) =
    disjoint_from family (length image) number m (picked key number front) (picked key m (front ++ back)) l n
    (disjoint_front (picked key number front) (picked key number back) (picked key m (front ++ back)) whole) in
    let j : List ℕ = inserted (chain_at family number) image (last_of (picked key number front)) slot in
    let head : family.heads + m ≢ t = head_not (picked key number front) family (length image) number m l n k other in
    subst (λ (xs : List ℕ). IsChain (chain_at family m) j xs) (sym skip)
    (chain_beside (chain_at family m) image j t p (picked key m (front ++ back))
    (λ q u v. get_or-set_other (slice_set image p (slice_index image t)) t q (slot + 1) 0 u ∙ get_or-set_other image p q (slice_index image t) 0 v)
    head (let a = l.heads in λ q. omega (arith, a, k, q))
    clear (clear_of family m slot (picked key m (front ++ back)) (picked_misses key m slot (front ++ back) miss))
    (is.chains m k))

pub indexed_put : {A : Type 0} (family : Family) (image : List ℕ) (key : A → Option ℕ) (front back : List (ℕ × A)) (slot : ℕ) (r : A) (o : Option ℕ)
    → key r ≡ o → Lays family (length image) → slot < family.slots → IsOf family o
    → Misses slot (slots_in (front ++ back)) → Apart (slots_in (front ++ back))
    → Indexed family image key (front ++ back)
    → Indexed family (put_in family image o (last_of (picked_of key o front)) slot) key (front ++ ((slot, r) ∷ back))
indexed_put family image key front back slot r None own l s n miss apart is = record {
  chains = λ m k. subst (λ (xs : List ℕ). IsChain (chain_at family m) image xs)
      (sym (picked_skip key m slot r front back (ap (λ o. is_number m o) own))) (is.chains m k);
}
indexed_put family image key front back slot r (Some number) own l s n miss apart is = record {
  chains = λ m k. changed family image key front back slot number m r (m == number) refl l s n k own miss apart is;
}

-- one more entry at the end
pub indexed_end : {A : Type 0} (family : Family) (image : List ℕ) (key : A → Option ℕ) (done : List (ℕ × A)) (slot : ℕ) (r : A) (o : Option ℕ)
    → key r ≡ o → Lays family (length image) → slot < family.slots → IsOf family o → Misses slot (slots_in done) → Apart (slots_in done)
    → Indexed family image key done
    → Indexed family (put_in family image o (last_of (picked_of key o done)) slot) key (done ++ ((slot, r) ∷ []))
indexed_end {A = A} family image key done slot r o own l s n m a is =
    let e : done ≡ done ++ [] = sym (append-nil done) in
    indexed_put family image key done [] slot r o own l s n
    (subst (λ (xs : List (ℕ × A)). Misses slot (slots_in xs)) e m) (subst (λ (xs : List (ℕ × A)). Apart (slots_in xs)) e a) (subst (λ (xs : List (ℕ × A)). Indexed family image key xs) e is)

-- one more entry at the front
pub indexed_front : {A : Type 0} (family : Family) (image : List ℕ) (key : A → Option ℕ) (es : List (ℕ × A)) (slot : ℕ) (r : A) (o : Option ℕ)
    → key r ≡ o → Lays family (length image) → slot < family.slots → IsOf family o → Misses slot (slots_in es) → Apart (slots_in es)
    → Indexed family image key es
    → Indexed family (put_in family image o None slot) key ((slot, r) ∷ es)
indexed_front family image key es slot r o own l s n m a is =
    subst (λ (after : Option ℕ). Indexed family (put_in family image o after slot) key ((slot, r) ∷ es)) (first_place key o)
    (indexed_put family image key [] es slot r o own l s n m a is)
