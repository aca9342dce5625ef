-- Filters and searches, one after another.
use Rattle.std.proofs.Common.{◌≡◌, ℕ, Bool, List, Some, [], ap, cond, false, filter, find, refl, sym, true, ◌&&◌, ◌==◌, ◌∙◌, ◌∷◌}
use Rattle.std.proofs.Math.Bool.{and-false, and-true}
use Rattle.std.proofs.lemmas.Bool.{eqb-true}
use Rattle.xf_trie.specs.Keys.{agrees}

swap_step : {A : Type 0} (p q : A → Bool) (x : A) (xs : List A) (a b : Bool) → p x ≡ a → q x ≡ b
    → filter p (filter q xs) ≡ filter q (filter p xs)
    → filter p (cond b (x ∷ filter q xs) (filter q xs)) ≡ filter q (cond a (x ∷ filter p xs) (filter p xs))
swap_step p q x xs true true ea eb e = ap (λ (v : Bool). cond v (x ∷ filter p (filter q xs)) (filter p (filter q xs))) ea ∙ ap (λ ys. x ∷ ys) e ∙ sym (ap (λ (v : Bool). cond v (x ∷ filter q (filter p xs)) (filter q (filter p xs))) eb)
swap_step p q x xs true false ea eb e = e ∙ sym (ap (λ (v : Bool). cond v (x ∷ filter q (filter p xs)) (filter q (filter p xs))) eb)
swap_step p q x xs false true ea eb e = ap (λ (v : Bool). cond v (x ∷ filter p (filter q xs)) (filter p (filter q xs))) ea ∙ e
swap_step p q x xs false false ea eb e = e

pub filter_swap : {A : Type 0} (p q : A → Bool) (xs : List A) → filter p (filter q xs) ≡ filter q (filter p xs)
filter_swap p q [] = refl
filter_swap p q (x ∷ xs) = swap_step p q x xs (p x) (q x) refl refl (filter_swap p q xs)

find_step : {A : Type 0} (p q : A → Bool) (x : A) (xs : List A) (b : Bool) → find p (filter q xs) ≡ find (λ y. q y && p y) xs
    → find p (cond b (x ∷ filter q xs) (filter q xs)) ≡ cond (b && p x) (Some x) (find (λ y. q y && p y) xs)
find_step p q x xs true e = ap (λ o. cond (p x) (Some x) o) e
find_step p q x xs false e = e

pub find_filter : {A : Type 0} (p q : A → Bool) (xs : List A) → find p (filter q xs) ≡ find (λ y. q y && p y) xs
find_filter p q [] = refl
find_filter p q (x ∷ xs) = find_step p q x xs (q x) (find_filter p q xs)

pub find_same : {A : Type 0} (p q : A → Bool) (xs : List A) → ((x : A) → p x ≡ q x) → find p xs ≡ find q xs
find_same p q [] f = refl
find_same p q (x ∷ xs) f = ap (λ (b : Bool). cond b (Some x) (find p xs)) (f x) ∙ ap (λ o. cond (q x) (Some x) o) (find_same p q xs f)

pub same_test : (k m n key : ℕ) (marked v : Bool) → (m == n) ≡ v → (agrees k key m && (v && marked)) ≡ (marked && (v && agrees k key n))
same_test k m n key true true e = ap (λ x. agrees k key x && true) (eqb-true m n e) ∙ and-true (agrees k key n)
same_test k m n key false true e = and-false (agrees k key m)
same_test k m n key true false e = and-false (agrees k key m)
same_test k m n key false false e = and-false (agrees k key m)
