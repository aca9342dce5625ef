-- A number that a state accepted is known to its window from then on: it is seen, or older than the window tells (RFC 4303, 3.4.3).
use Rattle.std.proofs.Common.{arith, ℕ, zero, suc, ◌≡◌, ◌+◌, ◌-◌, ◌<◌, ◌≤◌, max, Bool, true, false, ◌&&◌, ◌||◌, ◌==◌, ◌⊎◌, inl, inr, List, [], ◌∷◌, filter, refl, ap, sym, ◌∙◌, cond, le-leb, eqb-true}
use Rattle.std.proofs.lemmas.Bool.{both_ways, and_from, eq-eqb, ne_eqb, or_left, or_right, or_cases, cases_lt, true≢false}
use Rattle.std.proofs.lemmas.Cmp.{nat_eq_equiv}
use Rattle.std.proofs.lemmas.List.Elements.{All-filter}
use Rattle.std.proofs.lemmas.Map.Made.{is_member-filter}
use Rattle.std.specs.Prelude.{nat_le}
use Rattle.xf_types.specs.Replay.{Fresh, Zero, Old, Seen, is_among, top, downwards, replay_check, accepted_with}
use Rattle.xf_laws.proofs.CounterLemmas.{among-member}
use Rattle.xf_laws.proofs.ReplayLemmas.{top-le, downwards-le, has-greatest}

-- the number is above 0, and among the accepted ones or older than the window tells
pub record IsKnown (window : ℕ) (accepted : List ℕ) (n : ℕ) : Type 0 where
  pub positive : 0 < n
  pub known : (is_among accepted n ≡ true) ⊎ ((n ≤ top accepted) × (window ≤ top accepted - n))

-- what the tests of a window say of a fresh number
tests-say : (none nil old seen : Bool) → none ≡ false
    → cond none Fresh (cond nil Zero (cond old Old (cond seen Seen Fresh))) ≡ Fresh → (nil ≡ false) × ((old ≡ false) × (seen ≡ false))
tests-say true nil old seen n e = absurd (true≢false n)
tests-say false true old seen n e = absurd cc
tests-say false false true seen n e = absurd cc
tests-say false false false true n e = absurd cc
tests-say false false false false n e = (refl, (refl, refl))

-- of a number and its window
fresh-says : (window : ℕ) (accepted : List ℕ) (n : ℕ) → 0 < window → replay_check window accepted n ≡ Fresh
    → ((n == 0) ≡ false)
    × (((nat_le n (top accepted) && nat_le window (top accepted - n)) ≡ false) × (is_among accepted n ≡ false))
fresh-says window accepted n positive e =
    tests-say (window == 0) (n == 0) (nat_le n (top accepted) && nat_le window (top accepted - n)) (is_among accepted n)
    (ne_eqb window 0 (omega arith)) e

-- a fresh number is above 0
pub fresh-positive : (window : ℕ) (accepted : List ℕ) (n : ℕ) → 0 < window → replay_check window accepted n ≡ Fresh → 0 < n
fresh-positive window accepted zero positive e =
    absurd (both_ways (zero == zero) (fresh-says window accepted zero positive e).0 (eq-eqb zero zero refl))
fresh-positive window accepted (suc n) positive e = omega arith

-- and isn't known
pub known-fresh : (window : ℕ) (accepted : List ℕ) (n : ℕ) → 0 < window → IsKnown window accepted n
    → replay_check window accepted n ≡ Fresh → ⊥
known-fresh window accepted n positive h e =
    let says = fresh-says window accepted n positive e in
    elim h.known [
      | inl among ↦ both_ways (is_among accepted n) says.1.1 among
      | inr old ↦
          both_ways (nat_le n (top accepted) && nat_le window (top accepted - n)) says.1.0
          (and_from (nat_le n (top accepted)) (nat_le window (top accepted - n)) (le-leb n (top accepted) old.0)
          (le-leb window (top accepted - n) old.1))
    ]

-- none of a list is greater than its top
among-top : (xs : List ℕ) (n : ℕ) → is_among xs n ≡ true → n ≤ top xs
among-top [] n e = absurd (true≢false (sym e))
among-top (x ∷ xs) n e =
    elim (or_cases (x == n) (is_among xs n) e) [
      | inl here ↦ (let same : x ≡ n = eqb-true x n here in omega arith)
      | inr later ↦ (let le : n ≤ top xs = among-top xs n later in omega arith)
    ]

-- the numbers from t down have those that are near enough
downwards-has : (t count n : ℕ) → 0 < n → n ≤ t → t < n + count → is_among (downwards t count) n ≡ true
downwards-has t zero n positive le near = absurd (omega arith)
downwards-has zero (suc count) n positive le near = absurd (omega arith)
downwards-has (suc t) (suc count) n positive le near =
    elim (cases_lt n (suc t)) [
      | inl less ↦ or_right (suc t == n) (is_among (downwards t count) n) (downwards-has t count n positive (omega arith) (omega arith))
      | inr ge ↦ or_left (suc t == n) (is_among (downwards t count) n) (eq-eqb (suc t) n (omega arith))
    ]

-- what is kept of a list
among-filter : (p : ℕ → Bool) (xs : List ℕ) (n : ℕ) → is_among (filter p xs) n ≡ (is_among xs n && p n)
among-filter p xs n =
    among-member (filter p xs) n ∙ is_member-filter nat_eq_equiv p n (λ x e. ap p (eqb-true n x e)) xs
    ∙ ap (λ (b : Bool). b && p n) (sym (among-member xs n))

-- the top of what a set has of the numbers from its top down
top-told : (set : ℕ → Bool) (n count : ℕ) → 0 < count → (0 < n → set n ≡ true) → top (filter set (downwards n count)) ≡ n
top-told set n zero positive has = absurd (omega arith)
top-told set zero (suc count) positive has = refl
top-told set (suc n) (suc count) positive has =
    let rest = filter set (downwards n count) in
    let small : top rest ≤ n = top-le rest n (All-filter set (λ m. m ≤ n) (downwards n count) (downwards-le n count)) in
    let greatest : top (suc n ∷ rest) ≡ suc n = omega arith in
    ap (λ (b : Bool). top (cond b (suc n ∷ rest) rest)) (has (omega arith)) ∙ greatest

-- a number up to the top that was accepted, or that is accepted now, is known afterwards
known-among : (window k : ℕ) (accepted : List ℕ) (n : ℕ) → 0 < n → n ≤ max k (top accepted)
    → ((n == k) || is_among accepted n) ≡ true → IsKnown window (accepted_with window accepted k) n
known-among window k accepted n positive le has =
    let t : ℕ = max k (top accepted) in
    let set : ℕ → Bool = λ m. (m == k) || is_among accepted m in
    let count : ℕ = max window 1 in
    let xs : List ℕ = downwards t count in
    let told : top (filter set xs) ≡ t = top-told set t count (omega arith) (has-greatest k accepted) in
    record {
      positive = positive;
      known =
          elim (cases_lt t (n + window)) [
            | inl near ↦
                inl
                (among-filter set xs n
                ∙ and_from (is_among xs n) (set n) (downwards-has t count n positive le (omega arith)) has)
            | inr far ↦ inr (omega arith, omega arith)
          ];
    }

-- a number that is known stays known when another is accepted
pub known-with : (window k : ℕ) (accepted : List ℕ) (n : ℕ) → IsKnown window accepted n → IsKnown window (accepted_with window accepted k) n
known-with window k accepted n h =
    let t : ℕ = max k (top accepted) in
    let set : ℕ → Bool = λ m. (m == k) || is_among accepted m in
    let count : ℕ = max window 1 in
    elim h.known [
      | inl among ↦
          (let le : n ≤ top accepted = among-top accepted n among in
          known-among window k accepted n h.positive (omega arith) (or_right (n == k) (is_among accepted n) among))
      | inr old ↦
          (let told : top (filter set (downwards t count)) ≡ t = top-told set t count (omega arith) (has-greatest k accepted) in
          record { positive = h.positive; known = inr (omega arith, omega arith) })
    ]

-- and one that is accepted becomes known
pub known-now : (window : ℕ) (accepted : List ℕ) (n : ℕ) → 0 < n → IsKnown window (accepted_with window accepted n) n
known-now window accepted n positive =
    known-among window n accepted n positive (omega arith) (or_left (n == n) (is_among accepted n) (eq-eqb n n refl))
