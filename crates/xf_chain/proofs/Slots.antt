-- Lists of slots in two parts.
use Rattle.std.proofs.Common.{◌≡◌, ◌≢◌, ℕ, ◌<◌, ◌≤◌, Bool, true, false, List, [], ◌∷◌, ◌++◌, length, sym, arith, rules, eqb, ◌||◌}
use Rattle.std.proofs.lemmas.Bool.Decides.{nat_tests}
use Rattle.std.specs.List.{IsDistinct, AllByRecursion, list_any}
use Rattle.std.proofs.lemmas.Map.Steps.{length-le_from_distinct_below}
use Rattle.xf_chain.specs.Lists.{Misses, Apart, Within}

-- a slot that isn't in the whole is in no part

pub misses_front : (x : ℕ) (front back : List ℕ) → Misses x (front ++ back) → Misses x front
misses_front x [] back m = search rules
misses_front x (y ∷ ys) back m = (m.0, misses_front x ys back m.1)

pub misses_back : (x : ℕ) (front back : List ℕ) → Misses x (front ++ back) → Misses x back
misses_back x [] back m = m
misses_back x (y ∷ ys) back m = misses_back x ys back m.1

pub misses_more : (x slot : ℕ) (front back : List ℕ) → Misses x (front ++ back) → x ≢ slot → Misses x (front ++ (slot ∷ back))
misses_more x slot [] back m n = (n, m)
misses_more x slot (y ∷ ys) back m n = (m.0, misses_more x slot ys back m.1 n)

pub misses_less : (x slot : ℕ) (front back : List ℕ) → Misses x (front ++ (slot ∷ back)) → Misses x (front ++ back)
misses_less x slot [] back m = m.1
misses_less x slot (y ∷ ys) back m = (m.0, misses_less x slot ys back m.1)

-- a list with one slot more, or one less, between two parts

pub apart_more : (slot : ℕ) (front back : List ℕ) → Apart (front ++ back) → Misses slot (front ++ back) → Apart (front ++ (slot ∷ back))
apart_more slot [] back a m = (m, a)
apart_more slot (y ∷ ys) back a m = (misses_more y slot ys back a.0 (λ e. m.0 (sym e)), apart_more slot ys back a.1 m.1)

pub apart_less : (slot : ℕ) (front back : List ℕ) → Apart (front ++ (slot ∷ back)) → Apart (front ++ back)
apart_less slot [] back a = a.1
apart_less slot (y ∷ ys) back a = (misses_less y slot ys back a.0, apart_less slot ys back a.1)

pub within_more : (n slot : ℕ) (front back : List ℕ) → Within n (front ++ back) → slot < n → Within n (front ++ (slot ∷ back))
within_more n slot [] back w b = (b, w)
within_more n slot (y ∷ ys) back w b = (w.0, within_more n slot ys back w.1 b)

pub within_less : (n slot : ℕ) (front back : List ℕ) → Within n (front ++ (slot ∷ back)) → Within n (front ++ back)
within_less n slot [] back w = w.1
within_less n slot (y ∷ ys) back w = (w.0, within_less n slot ys back w.1)

-- a part of a list

pub apart_front : (front back : List ℕ) → Apart (front ++ back) → Apart front
apart_front [] back a = search rules
apart_front (y ∷ ys) back a = (misses_front y ys back a.0, apart_front ys back a.1)

pub within_front : (n : ℕ) (front back : List ℕ) → Within n (front ++ back) → Within n front
within_front n [] back a = search rules
within_front n (y ∷ ys) back a = (a.0, within_front n ys back a.1)

pub within_back : (n : ℕ) (front back : List ℕ) → Within n (front ++ back) → Within n back
within_back n [] back a = a
within_back n (y ∷ ys) back a = within_back n ys back a.1

-- a slot of slots that are apart is in neither part beside it
pub misses_apart : (slot : ℕ) (front back : List ℕ) → Apart (front ++ (slot ∷ back)) → Misses slot front
misses_apart slot [] back a = search rules
misses_apart slot (x ∷ front) back a =
    let m : Misses x (slot ∷ back) = misses_back x front (slot ∷ back) a.0 in
    ((λ e. m.0 (sym e)), misses_apart slot front back a.1)

pub misses_others : (slot : ℕ) (front back : List ℕ) → Apart (front ++ (slot ∷ back)) → Misses slot (front ++ back)
misses_others slot [] back a = a.0
misses_others slot (x ∷ front) back a =
    let m : Misses x (slot ∷ back) = misses_back x front (slot ∷ back) a.0 in
    ((λ e. m.0 (sym e)), misses_others slot front back a.1)

-- slots that are apart are distinct

pub apart_eqb : (x y : ℕ) → x ≢ y → eqb x y ≡ false
apart_eqb x y n = grind (arith, nat_tests)

pub differs : (x : ℕ) (xs : List ℕ) → Misses x xs → AllByRecursion (λ y. eqb x y ≡ false) xs
differs x [] m = search rules
differs x (y ∷ ys) m = (apart_eqb x y m.0, differs x ys m.1)

pub distinct : (xs : List ℕ) → Apart xs → IsDistinct eqb xs
unfolding IsDistinct
distinct [] a = search rules
distinct (x ∷ xs) a = (differs x xs a.0, distinct xs a.1)

pub any_step : (n q x : ℕ) (b : Bool) → x < n → (b ≡ true → q < n) → (eqb q x || b) ≡ true → q < n
any_step n q x b h f e = grind (arith, nat_tests)

pub within_any : (n q : ℕ) (xs : List ℕ) → Within n xs → list_any (eqb q) xs ≡ true → q < n
within_any n q [] w m = absurd (cc)
within_any n q (x ∷ xs) w m = any_step n q x (list_any (eqb q) xs) w.0 (λ e. within_any n q xs w.1 e) m

-- so they are no more than there are
pub slots_fit : (n : ℕ) (xs : List ℕ) → Apart xs → Within n xs → length xs ≤ n
slots_fit n xs a w = length-le_from_distinct_below xs n (distinct xs a) (λ q m. within_any n q xs w m)
