-- Lists of values in slots, and parts of a list of words.
use Rattle.std.proofs.Common.{◌≡◌, ◌≢◌, ℕ, zero, suc, ◌+◌, Bool, false, List, [], ◌∷◌, ◌++◌, map, take, drop, set, get_or, Some, None, Option, refl, sym, ap, ◌∙◌, arith}
use mathlib.Core.Option.{some, some-injective, some-ne-none}
use lib.ListN.{get_elem?}

-- one element more of a list
pub take_next : (l : List ℕ) (i x : ℕ) → get_elem? l i ≡ some x → take (i + 1) l ≡ take i l ++ x ∷ []
take_next [] i x e = absurd (some-ne-none x (sym e))
take_next (y ∷ ys) zero x e = ap (λ z. z ∷ []) (some-injective y x e)
take_next (y ∷ ys) (suc i) x e =
    let next : suc i + 1 ≡ suc (i + 1) = omega arith in
    ap (λ k. take k (y ∷ ys)) next ∙ ap (λ l. y ∷ l) (take_next ys i x e)

pub at_drop : (l : List ℕ) (from i : ℕ) → get_elem? (drop from l) i ≡ get_elem? l (from + i)
at_drop l zero i = ap (get_elem? l) (omega arith)
at_drop [] (suc from) i = refl
at_drop (x ∷ xs) (suc from) i = at_drop xs from i ∙ (let next : suc (from + i) ≡ suc from + i = omega arith in ap (get_elem? (x ∷ xs)) next)

-- of words from a place on
pub take_from : (l : List ℕ) (from i x : ℕ) → get_elem? l (from + i) ≡ some x → take (i + 1) (drop from l) ≡ take i (drop from l) ++ x ∷ []
take_from l from i x e = take_next (drop from l) i x (at_drop l from i ∙ e)

first_of_both : {A : Type 0} (a b : A) (xs ys : List A) → a ∷ xs ≡ b ∷ ys → a ≡ b
first_of_both a b xs ys e = cc

rest_of_both : {A : Type 0} (a b : A) (xs ys : List A) → a ∷ xs ≡ b ∷ ys → xs ≡ ys
rest_of_both a b xs ys e = cc

-- a place that is emptied, and the others
pub emptied_here : (l : List Bool) (i : ℕ) → get_or (set l i false) i false ≡ false
emptied_here [] i = refl
emptied_here (x ∷ xs) zero = refl
emptied_here (x ∷ xs) (suc i) = emptied_here xs i

pub emptied_else : (l : List Bool) (i k : ℕ) → k ≢ i → get_or (set l i false) k false ≡ get_or l k false
emptied_else [] i k n = refl
emptied_else (x ∷ xs) zero zero n = absurd (n refl)
emptied_else (x ∷ xs) zero (suc k) n = refl
emptied_else (x ∷ xs) (suc i) zero n = refl
emptied_else (x ∷ xs) (suc i) (suc k) n = emptied_else xs i k (λ e. n (ap suc e))

module _ {T : Type 0} where
  pub same_some : (a b : T) → Some a ≡ Some b → a ≡ b
  same_some a b e = cc

  -- lists of values are told by the slots that have them
  pub values_same : (xs ys : List T) → map Some xs ≡ map Some ys → xs ≡ ys
  values_same [] [] e = refl
  values_same [] (y ∷ ys) e = absurd (cc)
  values_same (x ∷ xs) [] e = absurd (cc)
  values_same (x ∷ xs) (y ∷ ys) e =
      let head : x ≡ y = same_some x y (first_of_both (Some x) (Some y) (map Some xs) (map Some ys) e) in
      let tail : xs ≡ ys = values_same xs ys (rest_of_both (Some x) (Some y) (map Some xs) (map Some ys) e) in
      λ i. head i ∷ tail i

  -- none of them is empty
  pub none_empty : (xs : List T) (front back : List (Option T)) → map Some xs ≡ front ++ None ∷ back → ⊥
  none_empty [] [] back e = absurd (cc)
  none_empty [] (y ∷ front) back e = absurd (cc)
  none_empty (x ∷ xs) [] back e = let h = first_of_both (Some x) None (map Some xs) back e in absurd (cc)
  none_empty (x ∷ xs) (y ∷ front) back e = none_empty xs front back (rest_of_both (Some x) y (map Some xs) (front ++ None ∷ back) e)
