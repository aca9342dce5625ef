-- As many slots more are retired as records are gone, at most.
use Rattle.std.proofs.Common.{◌≡◌, ◌≢◌, ℕ, zero, suc, ◌+◌, ◌<◌, ◌≤◌, Bool, true, false, List, [], ◌∷◌, length, refl, sym, ap, ◌∙◌, arith, ⊎_elim, ◌⊎◌}
use mathlib.Core.Option.{some, some-injective, some-ne-none}
use lib.ListN.{get_elem?}
use Rattle.std.specs.Prelude.{◌==◌, nat_le, slice_index}
use Rattle.std.proofs.lemmas.Bool.{eq-eqb, ne_eqb, le-leb, leb-true}
use Rattle.xf_views.specs.TurnPart.{one_if}
use Rattle.xf_invariant.specs.PinPart.{Has}
use Rattle.xf_retired.specs.Pools.{count_below, listed_slots, retired_slots}

abbrev left_of : ℕ → List ℕ → List ℕ
left_of k [] = []
left_of zero (x ∷ xs) = xs
left_of (suc k) (x ∷ xs) = x ∷ left_of k xs

left-length : (l : List ℕ) (k y : ℕ) → get_elem? l k ≡ some y → suc (length (left_of k l)) ≡ length l
left-length [] k y e = absurd (some-ne-none y (sym e))
left-length (x ∷ xs) zero y e = refl
left-length (x ∷ xs) (suc k) y e = ap suc (left-length xs k y e)

left-has : (l : List ℕ) (k y x j : ℕ) → get_elem? l k ≡ some y → get_elem? l j ≡ some x → x ≢ y → Has (left_of k l) x
left-has [] k y x j e h ne = absurd (some-ne-none y (sym e))
left-has (z ∷ zs) zero y x zero e h ne = absurd (ne (some-injective x y (sym h ∙ e)))
left-has (z ∷ zs) zero y x (suc j) e h ne = (j, h)
left-has (z ∷ zs) (suc k) y x zero e h ne = (zero, h)
left-has (z ∷ zs) (suc k) y x (suc j) e h ne = let t = left-has zs k y x j e h ne in (suc t.0, t.1)

-- each one that passes the second test alone has a key among those that are gone, and no two have one key
pub counts-few : (n : ℕ) (was now : ℕ → Bool) (key : ℕ → ℕ) (gone : List ℕ)
    → ((s : ℕ) → s < n → now s ≡ true → was s ≡ false → Has gone (key s))
    → ((s t : ℕ) → s < n → t < n → now s ≡ true → was s ≡ false → now t ≡ true → was t ≡ false → key s ≡ key t → s ≡ t)
    → count_below now n ≤ count_below was n + length gone
counts-few zero was now key gone lies apart = omega arith
counts-few (suc n) was now key gone lies apart =
    last (now n) refl (was n) refl
    (counts-few n was now key gone (λ s h a b. lies s (omega arith) a b) (λ s t h k a b c d e. apart s t (omega arith) (omega arith) a b c d e))
    (λ a b. let here = lies n (omega arith) a b in counts-few n was now key (left_of here.0 gone)
    (λ s h c d. let there = lies s (omega arith) c d in left-has gone here.0 (key n) (key s) there.0 here.1 there.1 (λ e. let z : s ≡ n = apart s n (omega arith) (omega arith) c d a b e in omega arith))
    (λ s t h k c d e f g. apart s t (omega arith) (omega arith) c d e f g))
  where
    last : (b : Bool) → now n ≡ b → (c : Bool) → was n ≡ c → count_below now n ≤ count_below was n + length gone
        → ((a : now n ≡ true) → (b : was n ≡ false) → count_below now n ≤ count_below was n + length (left_of (lies n (omega arith) a b).0 gone))
        → count_below now n + one_if (now n) ≤ (count_below was n + one_if (was n)) + length gone
    last false is c w h k = let z : one_if (now n) ≡ 0 = ap one_if is in omega arith
    last true is true w h k = let y : one_if (now n) ≡ 1 = ap one_if is in let z : one_if (was n) ≡ 1 = ap one_if w in omega arith
    last true is false w h k =
        let y : one_if (now n) ≡ 1 = ap one_if is in
        let here = lies n (omega arith) is w in
        let t = k is w in
        let l = left-length gone here.0 (key n) here.1 in
        omega arith

-- slots of which each is listed or retired
pub all-taken : (image : List ℕ) (first size : ℕ) → ((slot : ℕ) → first ≤ slot → slot < first + size → (slice_index image slot ≡ 1) ⊎ (2 ≤ slice_index image slot))
    → listed_slots image first size + retired_slots image first size ≡ size
all-taken image first zero taken = refl
all-taken image first (suc n) taken =
    let rest = all-taken image first n (λ slot low less. taken slot low (omega arith)) in
    let x = slice_index image (first + n) in
    ⊎_elim
    (λ (one : slice_index image (first + n) ≡ 1).
    let a : one_if (slice_index image (first + n) == 1) ≡ 1 = ap one_if (eq-eqb (slice_index image (first + n)) 1 one) in
    let b : one_if (nat_le 2 (slice_index image (first + n))) ≡ 0 = ap (λ (k : ℕ). one_if (nat_le 2 k)) one in
    omega arith)
    (λ (more : 2 ≤ slice_index image (first + n)).
    let a : one_if (slice_index image (first + n) == 1) ≡ 0 = ap one_if (ne_eqb (slice_index image (first + n)) 1 (λ e. omega arith)) in
    let b : one_if (nat_le 2 (slice_index image (first + n))) ≡ 1 = ap one_if (le-leb 2 (slice_index image (first + n)) more) in
    omega arith)
    (taken (first + n) (omega arith) (omega arith))

-- slots of which none is
pub none-retired : (image : List ℕ) (first size : ℕ) → ((slot : ℕ) → slot < first + size → slice_index image slot ≤ 1) → retired_slots image first size ≡ 0
none-retired image first zero low = refl
none-retired image first (suc n) low =
    let rest = none-retired image first n (λ slot less. low slot (omega arith)) in
    let le = low (first + n) (omega arith) in
    zero_more (nat_le 2 (slice_index image (first + n))) refl rest le
  where
    zero_more : (b : Bool) → nat_le 2 (slice_index image (first + n)) ≡ b → retired_slots image first n ≡ 0 → slice_index image (first + n) ≤ 1
        → retired_slots image first n + one_if (nat_le 2 (slice_index image (first + n))) ≡ 0
    zero_more true e rest le = let more = leb-true 2 (slice_index image (first + n)) e in absurd (omega arith)
    zero_more false e rest le = let a : one_if (nat_le 2 (slice_index image (first + n))) ≡ 0 = ap one_if e in omega arith
