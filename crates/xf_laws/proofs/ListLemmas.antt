-- Lists: what is found, what is left, what is inserted, and what holds of each two elements.
use Rattle.std.proofs.Common.{arith, ℕ, zero, suc, ◌≡◌, ◌<◌, ◌≤◌, Bool, true, false, not, List, [], ◌∷◌, ◌++◌, length, map, take, drop, get_or, filter, refl, ap, sym, ◌∙◌, subst, cond, None, Some, find, All, AllPairs, insert}
use Rattle.std.proofs.lemmas.Bool.{or_parts}
use Rattle.std.specs.List.{list_any}
use Rattle.std.proofs.lemmas.Option.{same_Some}
use Rattle.std.proofs.lemmas.List.Elements.{All-nil, All-cons, All-head, All-tail, All-append, All-take, All-drop, All-filter, All-map}
use Rattle.std.proofs.lemmas.List.Kept.{AllPairs-cons}
use Rattle.xf_types.specs.PolicyList.{without}

-- where nothing is found, each element fails
pub find-none : {X : Type 0} (test : X → Bool) (xs : List X) → find test xs ≡ None → All (λ x. test x ≡ false) xs
find-none test [] = λ e. All-nil (λ x. test x ≡ false)
find-none test (x ∷ xs) =
    elim (test x) as (λ b. test x ≡ b → cond b (Some x) (find test xs) ≡ None → All (λ y. test y ≡ false) (x ∷ xs)) [
      | true ↦ λ is e. absurd cc
      | false ↦ λ is e. All-cons (λ y. test y ≡ false) x xs is (find-none test xs e)
    ] refl

-- what is found passes
pub found-passes : {X : Type 0} (test : X → Bool) (xs : List X) (x : X) → find test xs ≡ Some x → test x ≡ true
found-passes test [] x = λ e. absurd cc
found-passes test (y ∷ ys) x =
    elim (test y) as (λ b. test y ≡ b → cond b (Some y) (find test ys) ≡ Some x → test x ≡ true) [
      | true ↦ λ is e. ap test (sym (same_Some y x e)) ∙ is
      | false ↦ λ is e. found-passes test ys x e
    ] refl

-- and has what each element has
pub All-found : {X : Type 0} (P : X → Type 0) (test : X → Bool) (xs : List X) (x : X) → find test xs ≡ Some x → All P xs → P x
All-found P test [] x = λ e all. absurd cc
All-found P test (y ∷ ys) x =
    elim (test y) as (λ b. cond b (Some y) (find test ys) ≡ Some x → All P (y ∷ ys) → P x) [
      | true ↦ λ e all. subst P (same_Some y x e) (All-head P y ys all)
      | false ↦ λ e all. All-found P test ys x e (All-tail P y ys all)
    ]

-- there are no two in an empty list
pub AllPairs-nil : {X : Type 0} (R : X → X → Type 0) → AllPairs R []
AllPairs-nil R i j d lt within = absurd (omega arith)

-- the first goes with each other one
pub AllPairs-head : {X : Type 0} (R : X → X → Type 0) (x : X) (xs : List X) → AllPairs R (x ∷ xs) → All (R x) xs
AllPairs-head R x xs h k d within = h zero (suc k) d (omega arith) (omega arith)

-- those after the first go with each other
pub AllPairs-tail : {X : Type 0} (R : X → X → Type 0) (x : X) (xs : List X) → AllPairs R (x ∷ xs) → AllPairs R xs
AllPairs-tail R x xs h i j d lt within = h (suc i) (suc j) d (omega arith) (omega arith)

-- what holds of each holds with one more
pub All-insert : {X : Type 0} (P : X → Type 0) (xs : List X) (n : ℕ) (y : X) → All P xs → P y → All P (insert xs n y)
All-insert P xs n y all p = All-append P (take n xs) (y ∷ drop n xs) (All-take P n xs all) (All-cons P y (drop n xs) p (All-drop P n xs all))

-- an element goes between those that stand before it and those that stand after it
pub AllPairs-insert : {X : Type 0} (R : X → X → Type 0) (xs : List X) (n : ℕ) (y : X) → n ≤ length xs → AllPairs R xs
    → ((k : ℕ) (d : X) → k < n → R (get_or xs k d) y) → ((k : ℕ) (d : X) → n ≤ k → k < length xs → R y (get_or xs k d))
    → AllPairs R (insert xs n y)
AllPairs-insert R [] zero y le pairs before after = AllPairs-cons R y [] (All-nil (R y)) (AllPairs-nil R)
AllPairs-insert R [] (suc n) y le pairs before after = absurd (omega arith)
AllPairs-insert R (x ∷ xs) zero y le pairs before after =
    AllPairs-cons R y (x ∷ xs) (λ k d within. after k d (omega arith) within) pairs
AllPairs-insert R (x ∷ xs) (suc n) y le pairs before after =
    AllPairs-cons R x (insert xs n y)
    (All-insert (R x) xs n y (AllPairs-head R x xs pairs) (before zero x (omega arith)))
    (AllPairs-insert R xs n y (omega arith) (AllPairs-tail R x xs pairs)
    (λ k d lt. before (suc k) d (omega arith))
    (λ k d ge within. after (suc k) d (omega arith) (omega arith)))

-- those that are left differ from the one that was found as each two differ
pub left-apart : {X : Type 0} (R : X → X → Type 0) → ((x y : X) → R x y → R y x) → (test : X → Bool) (xs : List X) (x : X)
    → find test xs ≡ Some x → AllPairs R xs → All (R x) (without test xs)
left-apart {X} R flip test [] x = λ e pairs. absurd cc
left-apart {X} R flip test (y ∷ ys) x =
    elim (test y)
    as (λ b. cond b (Some y) (find test ys) ≡ Some x → AllPairs R (y ∷ ys)
    → All (R x) (cond (not b) (y ∷ without test ys) (without test ys))) [
      | true ↦ λ e pairs.
          subst (λ (z : X). All (R z) (without test ys)) (same_Some y x e)
          (All-filter (λ z. not (test z)) (R y) ys (AllPairs-head R y ys pairs))
      | false ↦ λ e pairs.
          All-cons (R x) y (without test ys)
          (flip y x (All-found (R y) test ys x e (AllPairs-head R y ys pairs)))
          (left-apart R flip test ys x e (AllPairs-tail R y ys pairs))
    ]

-- no more are left than there were
pub left-le : {X : Type 0} (test : X → Bool) (xs : List X) → length (without test xs) ≤ length xs
left-le test [] = omega arith
left-le test (x ∷ xs) =
    let h : length (without test xs) ≤ length xs = left-le test xs in
    elim (test x) as (λ b. length (cond (not b) (x ∷ without test xs) (without test xs)) ≤ suc (length xs)) [
      | true ↦ omega arith
      | false ↦ omega arith
    ]

-- fewer are left where one was found
pub fewer-left : {X : Type 0} (test : X → Bool) (xs : List X) (x : X) → find test xs ≡ Some x
    → length (without test xs) < length xs
fewer-left test [] x = λ e. absurd cc
fewer-left test (y ∷ ys) x =
    elim (test y)
    as (λ b. cond b (Some y) (find test ys) ≡ Some x → length (cond (not b) (y ∷ without test ys) (without test ys)) < suc (length ys)) [
      | true ↦ λ e. (let h : length (without test ys) ≤ length ys = left-le test ys in omega arith)
      | false ↦ λ e. (let h : length (without test ys) < length ys = fewer-left test ys x e in omega arith)
    ]

-- an element that goes with each other one, in both orders, goes anywhere
pub AllPairs-insert_any : {X : Type 0} (R : X → X → Type 0) (xs : List X) (n : ℕ) (y : X) → n ≤ length xs → AllPairs R xs
    → All (λ x. R x y) xs → All (R y) xs → AllPairs R (insert xs n y)
AllPairs-insert_any R xs n y le pairs before after =
    AllPairs-insert R xs n y le pairs (λ k d lt. before k d (omega arith)) (λ k d ge within. after k d within)

-- where none passes, each element fails
pub none-passes : {X : Type 0} (test : X → Bool) (xs : List X) → list_any test xs ≡ false → All (λ x. test x ≡ false) xs
none-passes test [] e = All-nil (λ x. test x ≡ false)
none-passes test (x ∷ xs) e =
    let parts = or_parts (test x) (list_any test xs) e in
    All-cons (λ y. test y ≡ false) x xs parts.0 (none-passes test xs parts.1)

-- what holds of each two elements holds of what they are mapped to
pub AllPairs-map : {X Y : Type 0} (R : Y → Y → Type 0) (f : X → Y) (xs : List X) → AllPairs (λ x y. R (f x) (f y)) xs
    → AllPairs R (map f xs)
AllPairs-map R f [] pairs = AllPairs-nil R
AllPairs-map R f (x ∷ xs) pairs =
    AllPairs-cons R (f x) (map f xs)
    (All-map (R (f x)) f xs (AllPairs-head (λ y z. R (f y) (f z)) x xs pairs))
    (AllPairs-map R f xs (AllPairs-tail (λ y z. R (f y) (f z)) x xs pairs))

-- two tests that agree on the list keep the same of it
pub filter_agree_on : {X : Type 0} (p q : X → Bool) (xs : List X) → All (λ x. p x ≡ q x) xs → filter p xs ≡ filter q xs
filter_agree_on p q [] h = refl
filter_agree_on p q (x ∷ xs) h =
    ap (λ (b : Bool). cond b (x ∷ filter p xs) (filter p xs)) (All-head (λ y. p y ≡ q y) x xs h)
    ∙ ap (λ ys. cond (q x) (x ∷ ys) ys) (filter_agree_on p q xs (All-tail (λ y. p y ≡ q y) x xs h))

-- two functions that agree on the list map it alike
pub map_agree_on : {X Y : Type 0} (f g : X → Y) (xs : List X) → All (λ x. f x ≡ g x) xs → map f xs ≡ map g xs
map_agree_on f g [] h = refl
map_agree_on f g (x ∷ xs) h =
    ap (λ y. y ∷ map f xs) (All-head (λ y. f y ≡ g y) x xs h)
    ∙ ap (λ ys. g x ∷ ys) (map_agree_on f g xs (All-tail (λ y. f y ≡ g y) x xs h))

-- what is left of a mapped list
pub left-map : {X Y : Type 0} (f : X → Y) (test : Y → Bool) (xs : List X) → without test (map f xs) ≡ map f (without (λ x. test (f x)) xs)
left-map f test [] = refl
left-map f test (x ∷ xs) =
    elim (test (f x))
    as (λ b. cond (not b) (f x ∷ without test (map f xs)) (without test (map f xs))
    ≡ map f (cond (not b) (x ∷ without (λ y. test (f y)) xs) (without (λ y. test (f y)) xs))) [
      | true ↦ left-map f test xs
      | false ↦ ap (λ ys. f x ∷ ys) (left-map f test xs)
    ]

-- where an element was found, and what stands before and after it
pub record FoundIn {X : Type 0} (test : X → Bool) (xs : List X) (x : X) : Type 0 where
  pub before : List X
  pub after : List X
  pub place : xs ≡ before ++ x ∷ after
  pub passes : test x ≡ true
  pub none_before : All (λ y. test y ≡ false) before

-- what is found stands there
pub found_in : {X : Type 0} (test : X → Bool) (xs : List X) (x : X) → find test xs ≡ Some x → FoundIn test xs x
found_in test [] x = λ e. absurd cc
found_in test (y ∷ ys) x =
    elim (test y) as (λ b. test y ≡ b → cond b (Some y) (find test ys) ≡ Some x → FoundIn test (y ∷ ys) x) [
      | true ↦ λ is e.
          let same : y ≡ x = same_Some y x e in
          record {
            before = [];
            after = ys;
            place = ap (λ z. z ∷ ys) same;
            passes = ap test (sym same) ∙ is;
            none_before = All-nil (λ z. test z ≡ false);
          }
      | false ↦ λ is e.
          let h = found_in test ys x e in
          record {
            before = y ∷ h.before;
            after = h.after;
            place = ap (λ zs. y ∷ zs) h.place;
            passes = h.passes;
            none_before = All-cons (λ z. test z ≡ false) y h.before is h.none_before;
          }
    ] refl
