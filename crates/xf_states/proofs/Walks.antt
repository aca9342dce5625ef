-- Walks that change each element, or collect what some give.
use Rattle.std.proofs.Common.{arith, ◌≡◌, ℕ, zero, suc, ◌+◌, ◌<◌, List, [], ◌∷◌, ◌++◌, length, get_or, set, map, take, drop, refl, ap, sym, ◌∙◌, append_assoc}
use Rattle.std.specs.Prelude.{Option, None, Some, filter_map, option_to_list}
use Rattle.std.proofs.lemmas.List.{take_more}
use Rattle.std.proofs.lemmas.List.Elements.{filter_map-append}

mapped : {X : Type 0} (f : X → X) (xs : List X) (i : ℕ) (d : X) → i < length xs
    → set (map f (take i xs) ++ drop i xs) i (f (get_or (map f (take i xs) ++ drop i xs) i d)) ≡ map f (take (suc i) xs) ++ drop (suc i) xs
mapped f [] i d within = absurd (omega (arith, within))
mapped f (x ∷ xs) zero d within = refl
mapped f (x ∷ xs) (suc i) d within = ap (λ ys. f x ∷ ys) (mapped f xs i d (omega (arith, within)))

-- one more element is changed
pub mapped-more : {X : Type 0} (f : X → X) (xs ys : List X) (i : ℕ) (y new : X) → i < length xs → ys ≡ map f (take i xs) ++ drop i xs
    → new ≡ f (get_or ys i y) → set ys i new ≡ map f (take (i + 1) xs) ++ drop (i + 1) xs
mapped-more f xs ys i y new within so is =
    let next : suc i ≡ i + 1 = omega arith in
    ap (set ys i) is ∙ ap (λ zs. set zs i (f (get_or zs i y))) so ∙ mapped f xs i y within
    ∙ ap (λ n. map f (take n xs) ++ drop n xs) next

given : {X Y : Type 0} (h : X → Option Y) (x : X) → filter_map h (x ∷ []) ≡ option_to_list (h x)
given {Y = Y} h x = go (h x) refl
  where
    go : (o : Option Y) → h x ≡ o → filter_map h (x ∷ []) ≡ option_to_list o
    go None e = rw e refl
    go (Some y) e = rw e refl

-- one more element gives what it gives
pub collected-more : {X Y : Type 0} (h : X → Option Y) (xs : List X) (i : ℕ) (x : X) (before : List Y) → i < length xs → x ≡ get_or xs i x
    → (before ++ filter_map h (take i xs)) ++ option_to_list (h x) ≡ before ++ filter_map h (take (i + 1) xs)
collected-more h xs i x before within at =
    append_assoc before (filter_map h (take i xs)) (option_to_list (h x))
    ∙ ap (λ ys. before ++ ys)
    (ap (λ z. filter_map h (take i xs) ++ option_to_list (h z)) at
    ∙ ap (λ ys. filter_map h (take i xs) ++ ys) (sym (given h (get_or xs i x)))
    ∙ sym (filter_map-append h (take i xs) (get_or xs i x ∷ [])) ∙ ap (filter_map h) (sym (take_more xs i x within)))

-- the same, where it was put behind what was collected so far
pub collects : {X Y : Type 0} (h : X → Option Y) (xs : List X) (i : ℕ) (x : X) (before old new : List Y) (o : Option Y) → i < length xs
    → x ≡ get_or xs i x → new ≡ old ++ option_to_list o → old ≡ before ++ filter_map h (take i xs) → o ≡ h x
    → new ≡ before ++ filter_map h (take (i + 1) xs)
collects h xs i x before old new o within at put so is =
    put ∙ ap (λ ys. ys ++ option_to_list o) so ∙ ap (λ p. (before ++ filter_map h (take i xs)) ++ option_to_list p) is
    ∙ collected-more h xs i x before within at
