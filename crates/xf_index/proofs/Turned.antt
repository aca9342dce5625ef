-- The first and the last of a list of slots, and the list the other way round.
use Rattle.std.proofs.Common.{◌≡◌, ◌≢◌, ℕ, ◌<◌, Bool, List, [], ◌∷◌, ◌++◌, Some, refl, ap, sym, ◌∙◌, subst, rules, reverse}
use Rattle.std.proofs.lemmas.List.{reverse-append, reverse-reverse}
use Rattle.xf_chain.specs.Chains.{Below}
use Rattle.xf_chain.specs.Lists.{Misses, Apart, Within, last_from, last_of, first_of}
use Rattle.xf_chain.proofs.Stops.{AllSlots}

last_end : (x y : ℕ) (ys : List ℕ) → last_from y (ys ++ (x ∷ [])) ≡ x
last_end x y [] = refl
last_end x y (z ∷ ys) = last_end x z ys

last_after : (x : ℕ) (ys : List ℕ) → last_of (ys ++ (x ∷ [])) ≡ Some x
last_after x [] = refl
last_after x (y ∷ ys) = ap (λ n. Some n) (last_end x y ys)

-- the last and the first of slots of a family are such slots
last_from_below : (n x : ℕ) (xs : List ℕ) → x < n → Within n xs → last_from x xs < n
last_from_below n x [] l w = l
last_from_below n x (y ∷ ys) l w = last_from_below n y ys w.0 w.1

pub last_below : (n : ℕ) (xs : List ℕ) → Within n xs → Below n (last_of xs)
last_below n [] w = search rules
last_below n (x ∷ xs) w = last_from_below n x xs w.0 w.1

pub first_below : (n : ℕ) (xs : List ℕ) → Within n xs → Below n (first_of xs)
first_below n [] w = search rules
first_below n (x ∷ xs) w = w.0

-- the last is the first
pub last_reverse : (xs : List ℕ) → last_of (reverse xs) ≡ first_of xs
last_reverse [] = refl
last_reverse (x ∷ xs) = ap last_of (reverse-append (x ∷ []) xs) ∙ last_after x (reverse xs)

-- the first is the last
pub first_reverse : (xs : List ℕ) → first_of (reverse xs) ≡ last_of xs
first_reverse xs = sym (last_reverse (reverse xs)) ∙ ap last_of (reverse-reverse xs)

misses_end : (slot x : ℕ) (xs : List ℕ) → slot ≢ x → Misses slot xs → Misses slot (xs ++ (x ∷ []))
misses_end slot x [] n m = (n, m)
misses_end slot x (y ∷ ys) n m = (m.0, misses_end slot x ys n m.1)

pub misses_reverse : (slot : ℕ) (xs : List ℕ) → Misses slot xs → Misses slot (reverse xs)
misses_reverse slot [] m = m
misses_reverse slot (x ∷ xs) m =
    subst (λ (ys : List ℕ). Misses slot ys) (sym (reverse-append (x ∷ []) xs)) (misses_end slot x (reverse xs) m.0 (misses_reverse slot xs m.1))

apart_end : (x : ℕ) (xs : List ℕ) → Misses x xs → Apart xs → Apart (xs ++ (x ∷ []))
apart_end x [] m a = (m, a)
apart_end x (y ∷ ys) m a = (misses_end y x ys (λ e. m.0 (sym e)) a.0, apart_end x ys m.1 a.1)

pub apart_reverse : (xs : List ℕ) → Apart xs → Apart (reverse xs)
apart_reverse [] a = a
apart_reverse (x ∷ xs) a =
    subst (λ (ys : List ℕ). Apart ys) (sym (reverse-append (x ∷ []) xs)) (apart_end x (reverse xs) (misses_reverse x xs a.0) (apart_reverse xs a.1))

all_end : (test : ℕ → Bool) (b : Bool) (x : ℕ) (xs : List ℕ) → AllSlots test b xs → test x ≡ b → AllSlots test b (xs ++ (x ∷ []))
all_end test b x [] a e = (e, a)
all_end test b x (y ∷ ys) a e = (a.0, all_end test b x ys a.1 e)

pub all_reverse : (test : ℕ → Bool) (b : Bool) (xs : List ℕ) → AllSlots test b xs → AllSlots test b (reverse xs)
all_reverse test b [] a = a
all_reverse test b (x ∷ xs) a =
    subst (λ (ys : List ℕ). AllSlots test b ys) (sym (reverse-append (x ∷ []) xs)) (all_end test b x (reverse xs) (all_reverse test b xs a.1) a.0)
