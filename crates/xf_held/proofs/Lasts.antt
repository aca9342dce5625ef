-- The last of a list that passes a test.
use Rattle.std.proofs.Common.{arith, ◌≡◌, ℕ, zero, suc, ◌<◌, Bool, true, false, cond, ◌&&◌, List, [], ◌∷◌, ◌++◌, length, get_or, drop, map, filter, reverse, refl, ap, sym, ◌∙◌, None, Some}
use Rattle.std.specs.Prelude.{Option, find, slice_get}
use Rattle.std.specs.Option.{option_map, option_or}
use Rattle.std.proofs.lemmas.List.{append-nil, map-append, reverse-append}
use Rattle.std.proofs.lemmas.List.Elements.{filter-append}
use Rattle.std.proofs.lemmas.List.Folds.{find-append}
use Rattle.xf_types.specs.StateList.{last_of}

-- ---- the first one

find-map : {X Y : Type 0} (f : X → Y) (test : Y → Bool) (xs : List X)
    → find test (map f xs) ≡ option_map f (find (λ x. test (f x)) xs)
find-map f test [] = refl
find-map f test (x ∷ xs) =
    elim (test (f x))
    as (λ b. cond b (Some (f x)) (find test (map f xs)) ≡ option_map f (cond b (Some x) (find (λ y. test (f y)) xs)))
    [ true ↦ refl | false ↦ find-map f test xs ]

find-filter : {X : Type 0} (p q : X → Bool) (xs : List X) → find p (filter q xs) ≡ find (λ x. q x && p x) xs
find-filter p q [] = refl
find-filter p q (x ∷ xs) =
    elim (q x)
    as (λ b. find p (cond b (x ∷ filter q xs) (filter q xs)) ≡ cond (b && p x) (Some x) (find (λ y. q y && p y) xs))
    [ true ↦ ap (cond (p x) (Some x)) (find-filter p q xs) | false ↦ find-filter p q xs ]

-- ---- the last one

-- reversing commutes with a map and with a filter
reverse-map : {X Y : Type 0} (f : X → Y) (xs : List X) → reverse (map f xs) ≡ map f (reverse xs)
reverse-map f [] = refl
reverse-map f (x ∷ xs) =
    reverse-append (f x ∷ []) (map f xs) ∙ ap (λ ys. ys ++ f x ∷ []) (reverse-map f xs)
    ∙ sym (map-append f (reverse xs) (x ∷ [])) ∙ ap (map f) (sym (reverse-append (x ∷ []) xs))

reverse-filter : {X : Type 0} (p : X → Bool) (xs : List X) → reverse (filter p xs) ≡ filter p (reverse xs)
reverse-filter p [] = refl
reverse-filter p (x ∷ xs) =
    elim (p x)
    as (λ b. reverse (cond b (x ∷ filter p xs) (filter p xs)) ≡ filter p (reverse xs) ++ cond b (x ∷ []) []) [
      | true ↦ reverse-append (x ∷ []) (filter p xs) ∙ ap (λ ys. ys ++ x ∷ []) (reverse-filter p xs)
      | false ↦ reverse-filter p xs ∙ sym (append-nil (filter p (reverse xs)))
    ]
    ∙ sym (filter-append p (reverse xs) (x ∷ [])) ∙ ap (filter p) (sym (reverse-append (x ∷ []) xs))

-- the last one of a mapped list
pub last_of-map : {X Y : Type 0} (f : X → Y) (test : Y → Bool) (xs : List X)
    → last_of test (map f xs) ≡ option_map f (last_of (λ x. test (f x)) xs)
last_of-map f test xs = ap (find test) (reverse-map f xs) ∙ find-map f test (reverse xs)

-- the last one of those that are left
pub last_of-filter : {X : Type 0} (p q : X → Bool) (xs : List X) → last_of p (filter q xs) ≡ last_of (λ x. q x && p x) xs
last_of-filter p q xs = ap (find p) (reverse-filter q xs) ∙ find-filter p q (reverse xs)

-- of a list that begins with x
last_of-cons : {X : Type 0} (test : X → Bool) (x : X) (xs : List X)
    → last_of test (x ∷ xs) ≡ option_or (last_of test xs) (cond (test x) (Some x) None)
last_of-cons test x xs = ap (find test) (reverse-append (x ∷ []) xs) ∙ find-append test (reverse xs) (x ∷ [])

-- the second is not asked where the first is there
or_at : {Y : Type 0} (o : Option Y) (ys : List Y) (j : ℕ) → j < length ys → option_or (slice_get ys j) o ≡ slice_get ys j
or_at o [] j h = absurd (omega (arith, h))
or_at o (y ∷ ys) zero h = refl
or_at o (y ∷ ys) (suc j) h = or_at o ys j (omega (arith, h))

-- where none behind a place passes, and the one there does, it is the last one
pub last_of-at : {X : Type 0} (test : X → Bool) (xs : List X) (i : ℕ) (d : X) → i < length xs
    → last_of test (drop (suc i) xs) ≡ None → test (get_or xs i d) ≡ true → last_of test xs ≡ slice_get xs i
last_of-at test [] i d within none passes = absurd (omega (arith, within))
last_of-at test (x ∷ xs) zero d within none passes =
    last_of-cons test x xs ∙ ap (λ o. option_or o (cond (test x) (Some x) None)) none
    ∙ ap (λ b. cond b (Some x) None) passes
last_of-at test (x ∷ xs) (suc i) d within none passes =
    last_of-cons test x xs
    ∙ ap (λ o. option_or o (cond (test x) (Some x) None)) (last_of-at test xs i d (omega (arith, within)) none passes)
    ∙ or_at (cond (test x) (Some x) None) xs i (omega (arith, within))

-- where the one at a place fails too, none passes from there on
pub last_of-past : {X : Type 0} (test : X → Bool) (xs : List X) (i : ℕ) (d : X) → i < length xs
    → last_of test (drop (suc i) xs) ≡ None → test (get_or xs i d) ≡ false → last_of test (drop i xs) ≡ None
last_of-past test [] i d within none fails = absurd (omega (arith, within))
last_of-past test (x ∷ xs) zero d within none fails =
    last_of-cons test x xs ∙ ap (λ o. option_or o (cond (test x) (Some x) None)) none
    ∙ ap (λ b. cond b (Some x) None) fails
last_of-past test (x ∷ xs) (suc i) d within none fails = last_of-past test xs i d (omega (arith, within)) none fails
