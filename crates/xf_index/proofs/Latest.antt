-- An index of the entries the other way round.
use Rattle.std.proofs.Common.{◌≡◌, ℕ, ◌<◌, List, [], ◌∷◌, ◌++◌, Option, None, Some, length, refl, ap, sym, ◌∙◌, subst, reverse}
use Rattle.std.proofs.lemmas.List.{reverse-append}
use Rattle.xf_chain.specs.Lists.{Misses, Apart, last_of, first_of}
use Rattle.xf_chain.specs.declared.family.Family.{Family}
use Rattle.xf_chain.specs.Families.{Lays, IsOf, put_in, taken_out}
use Rattle.xf_index.specs.Indexes.{slots_in, picked, picked_of, Indexed}
use Rattle.xf_index.proofs.Entries.{reverse_last, reverse_within, slots_reverse}
use Rattle.xf_index.proofs.Turned.{last_reverse, misses_reverse, apart_reverse}
use Rattle.xf_index.proofs.Picks.{first_place, picked_reverse}
use Rattle.xf_index.proofs.Puts.{indexed_put}
use Rattle.xf_index.proofs.Takes.{indexed_taken}

pub latest_put : {A : Type 0} (family : Family) (image : List ℕ) (key : A → Option ℕ) (es : List (ℕ × A)) (slot : ℕ) (r : A)
    → Lays family (length image) → slot < family.slots → IsOf family (key r) → Misses slot (slots_in (reverse es)) → Apart (slots_in (reverse es))
    → Indexed family image key (reverse es)
    → Indexed family (put_in family image (key r) None slot) key (reverse (es ++ ((slot, r) ∷ [])))
latest_put {A = A} family image key es slot r l s k m a is =
    subst (λ (xs : List (ℕ × A)). Indexed family (put_in family image (key r) None slot) key xs) (sym (reverse_last (slot, r) es))
    (subst (λ (o : Option ℕ). Indexed family (put_in family image (key r) o slot) key ((slot, r) ∷ reverse es)) (first_place key (key r))
    (indexed_put family image key [] (reverse es) slot r (key r) refl l s k m a is))

pub latest_taken : {A : Type 0} (family : Family) (image : List ℕ) (key : A → Option ℕ) (front back : List (ℕ × A)) (slot : ℕ) (r : A)
    → Lays family (length image) → IsOf family (key r) → Apart (slots_in (reverse (front ++ ((slot, r) ∷ back))))
    → Indexed family image key (reverse (front ++ ((slot, r) ∷ back)))
    → Indexed family (taken_out family image (key r) (last_of (picked_of key (key r) (reverse back))) slot) key (reverse (front ++ back))
latest_taken {A = A} family image key front back slot r l k a is =
    let e : reverse (front ++ ((slot, r) ∷ back)) ≡ reverse back ++ ((slot, r) ∷ reverse front) = reverse_within front back (slot, r) in
    subst (λ (xs : List (ℕ × A)). Indexed family (taken_out family image (key r) (last_of (picked_of key (key r) (reverse back))) slot) key xs) (sym (reverse-append front back))
    (indexed_taken family image key (reverse back) (reverse front) slot r (key r) refl l k
    (subst (λ (xs : List (ℕ × A)). Apart (slots_in xs)) e a) (subst (λ (xs : List (ℕ × A)). Indexed family image key xs) e is))

-- the place of an entry, seen from the other end
place_reverse : {A : Type 0} (key : A → Option ℕ) (o : Option ℕ) (es : List (ℕ × A)) → last_of (picked_of key o (reverse es)) ≡ first_of (picked_of key o es)
place_reverse key None es = refl
place_reverse key (Some number) es = ap last_of (picked_reverse key number es) ∙ last_reverse (picked key number es)

-- an entry that is put between two parts goes after the first slot of what comes behind it
pub back_put : {A : Type 0} (family : Family) (image : List ℕ) (key : A → Option ℕ) (front back : List (ℕ × A)) (slot : ℕ) (r : A) (o : Option ℕ)
    → key r ≡ o → Lays family (length image) → slot < family.slots → IsOf family o
    → Misses slot (slots_in (front ++ back)) → Apart (slots_in (front ++ back))
    → Indexed family image key (reverse (front ++ back))
    → Indexed family (put_in family image o (first_of (picked_of key o back)) slot) key (reverse (front ++ ((slot, r) ∷ back)))
back_put {A = A} family image key front back slot r o own l s n m a is =
    let e : reverse (front ++ back) ≡ reverse back ++ reverse front = reverse-append front back in
    let slots : slots_in (reverse (front ++ back)) ≡ reverse (slots_in (front ++ back)) = slots_reverse (front ++ back) in
    let misses : Misses slot (slots_in (reverse (front ++ back))) =
    subst (λ (xs : List ℕ). Misses slot xs) (sym slots) (misses_reverse slot (slots_in (front ++ back)) m) in
    let apart : Apart (slots_in (reverse (front ++ back))) =
    subst (λ (xs : List ℕ). Apart xs) (sym slots) (apart_reverse (slots_in (front ++ back)) a) in
    subst (λ (xs : List (ℕ × A)). Indexed family (put_in family image o (first_of (picked_of key o back)) slot) key xs) (sym (reverse_within front back (slot, r)))
    (subst (λ (after : Option ℕ). Indexed family (put_in family image o after slot) key (reverse back ++ ((slot, r) ∷ reverse front))) (place_reverse key o back)
    (indexed_put family image key (reverse back) (reverse front) slot r o own l s n
    (subst (λ (xs : List (ℕ × A)). Misses slot (slots_in xs)) e misses)
    (subst (λ (xs : List (ℕ × A)). Apart (slots_in xs)) e apart)
    (subst (λ (xs : List (ℕ × A)). Indexed family image key xs) e is)))

-- and one that leaves goes from after that slot
pub back_taken : {A : Type 0} (family : Family) (image : List ℕ) (key : A → Option ℕ) (front back : List (ℕ × A)) (slot : ℕ) (r : A) (o : Option ℕ)
    → key r ≡ o → Lays family (length image) → IsOf family o
    → Apart (slots_in (front ++ ((slot, r) ∷ back)))
    → Indexed family image key (reverse (front ++ ((slot, r) ∷ back)))
    → Indexed family (taken_out family image o (first_of (picked_of key o back)) slot) key (reverse (front ++ back))
back_taken {A = A} family image key front back slot r o own l n a is =
    let all : List (ℕ × A) = front ++ ((slot, r) ∷ back) in
    let e : reverse all ≡ reverse back ++ ((slot, r) ∷ reverse front) = reverse_within front back (slot, r) in
    let apart : Apart (slots_in (reverse all)) =
    subst (λ (xs : List ℕ). Apart xs) (sym (slots_reverse all)) (apart_reverse (slots_in all) a) in
    subst (λ (xs : List (ℕ × A)). Indexed family (taken_out family image o (first_of (picked_of key o back)) slot) key xs) (sym (reverse-append front back))
    (subst (λ (after : Option ℕ). Indexed family (taken_out family image o after slot) key (reverse back ++ reverse front)) (place_reverse key o back)
    (indexed_taken family image key (reverse back) (reverse front) slot r o own l n
    (subst (λ (xs : List (ℕ × A)). Apart (slots_in xs)) e apart)
    (subst (λ (xs : List (ℕ × A)). Indexed family image key xs) e is)))
