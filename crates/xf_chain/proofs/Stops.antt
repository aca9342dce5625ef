-- Where a walk that goes on while a test holds stops.
use Rattle.std.proofs.Common.{◌≡◌, ◌≢◌, ℕ, Bool, true, false, List, [], ◌∷◌, ◌++◌, Option, None, Some, refl, ap, ◌∙◌, arith, rules, cond}
use Rattle.std.proofs.lemmas.Bool.Decides.{nat_tests}
use Rattle.std.specs.Prelude.{⊤}
use Rattle.xf_chain.specs.Lists.{Misses, last_from, last_of}
use Rattle.xf_chain.specs.Families.{last_while, is_other}

abbrev pub AllSlots : (ℕ → Bool) → Bool → List ℕ → Type 0
AllSlots test b [] = ⊤
AllSlots test b (x ∷ xs) = (test x ≡ b) × AllSlots test b xs

stops : (test : ℕ → Bool) (last : Option ℕ) (ys : List ℕ) → AllSlots test false ys → last_while test last ys ≡ last
stops test last [] a = refl
stops test last (y ∷ ys) a = ap (λ (b : Bool). cond b (last_while test (Some y) ys) last) a.0

goes : (test : ℕ → Bool) (x : ℕ) (xs ys : List ℕ) → AllSlots test true xs → AllSlots test false ys → last_while test (Some x) (xs ++ ys) ≡ Some (last_from x xs)
goes test x [] ys a b = stops test (Some x) ys b
goes test x (z ∷ xs) ys a b = ap (λ (c : Bool). cond c (last_while test (Some z) (xs ++ ys)) (Some x)) a.0 ∙ goes test z xs ys a.1 b

pub last_is : (test : ℕ → Bool) (xs ys : List ℕ) → AllSlots test true xs → AllSlots test false ys → last_while test None (xs ++ ys) ≡ last_of xs
last_is test [] ys a b = stops test None ys b
last_is test (x ∷ xs) ys a b = ap (λ (c : Bool). cond c (last_while test (Some x) (xs ++ ys)) None) a.0 ∙ goes test x xs ys a.1 b

-- the test that a slot is another one

others : (slot : ℕ) (xs : List ℕ) → Misses slot xs → AllSlots (is_other slot) true xs
others slot [] m = search rules
others slot (x ∷ xs) m = (let n : slot ≢ x = m.0 in grind (arith, nat_tests), others slot xs m.1)

itself : (slot : ℕ) → is_other slot slot ≡ false
itself slot = grind (arith, nat_tests)

stops_at : (test : ℕ → Bool) (last : Option ℕ) (y : ℕ) (ys : List ℕ) → test y ≡ false → last_while test last (y ∷ ys) ≡ last
stops_at test last y ys e = ap (λ (b : Bool). cond b (last_while test (Some y) ys) last) e

goes_at : (test : ℕ → Bool) (x y : ℕ) (xs ys : List ℕ) → AllSlots test true xs → test y ≡ false → last_while test (Some x) (xs ++ (y ∷ ys)) ≡ Some (last_from x xs)
goes_at test x y [] ys a e = stops_at test (Some x) y ys e
goes_at test x y (z ∷ xs) ys a e = ap (λ (c : Bool). cond c (last_while test (Some z) (xs ++ (y ∷ ys))) (Some x)) a.0 ∙ goes_at test z y xs ys a.1 e

last_at : (test : ℕ → Bool) (y : ℕ) (xs ys : List ℕ) → AllSlots test true xs → test y ≡ false → last_while test None (xs ++ (y ∷ ys)) ≡ last_of xs
last_at test y [] ys a e = stops_at test None y ys e
last_at test y (x ∷ xs) ys a e = ap (λ (c : Bool). cond c (last_while test (Some x) (xs ++ (y ∷ ys))) None) a.0 ∙ goes_at test x y xs ys a.1 e

-- the walk to a slot stops at the one before it
pub last_before : (slot : ℕ) (xs ys : List ℕ) → Misses slot xs → last_while (is_other slot) None (xs ++ (slot ∷ ys)) ≡ last_of xs
last_before slot xs ys m = last_at (is_other slot) slot xs ys (others slot xs m) (itself slot)
