-- Sets of numbers with their top, and the lists that a window shows of them.
use Rattle.std.proofs.Common.{arith, ◌≡◌, ℕ, zero, suc, ◌+◌, ◌<◌, ◌≤◌, max, List, [], ◌∷◌, Bool, true, false, ◌||◌, refl, ap, ◌∙◌, sym, subst, inl, inr}
use Rattle.std.specs.Prelude.{filter, ◌==◌}
use Rattle.std.proofs.lemmas.Bool.{eq-eqb, ne_eqb, or_left, or_right, or_from, both_ways}
use Rattle.std.proofs.lemmas.Bool.Decides.{nat_tests, leb_tells}
use Rattle.xf_replay.specs.Replay.{is_among, top, IsTop, AreAlike, in_window, downwards}
use Rattle.xf_replay.specs.History.{normal_form}
use Rattle.xf_replay.proofs.Runs.{top-filter, filter-same, is_among-filter, is_among-above}

-- the test of equality in the other order
pub eq-turned : (m n : ℕ) → (m == n) ≡ (n == m)
eq-turned m n = grind (arith, nat_tests)

-- the greatest of a list with one more number is among them
among_cons : (x : ℕ) (xs : List ℕ) → IsTop (is_among xs) (top xs) → 0 < max x (top xs)
    → is_among (x ∷ xs) (max x (top xs)) ≡ true
among_cons x xs is pos =
    let P : ℕ → Type 0 = λ m. is_among (x ∷ xs) m ≡ true in
    elim (leb_tells (top xs) x) [
      | inl le ↦ (let same : x ≡ max x (top xs) = omega arith in subst P same (or_left (x == x) (is_among xs x) (eq-eqb x x refl)))
      | inr gt ↦
          (let same : top xs ≡ max x (top xs) = omega arith in
          subst P same (or_right (x == top xs) (is_among xs (top xs)) (is.among (omega arith))))
    ]

-- no number above the greatest is among them
above_cons : (x : ℕ) (xs : List ℕ) → IsTop (is_among xs) (top xs) → (n : ℕ) → max x (top xs) < n → is_among (x ∷ xs) n ≡ false
above_cons x xs is n h =
    or_from (x == n) (is_among xs n) (ne_eqb x n (λ e. omega arith)) (is.above n (omega arith))

-- the greatest number of a list is the top of its set
pub IsTop-list : (xs : List ℕ) → IsTop (is_among xs) (top xs)
IsTop-list [] = record { among = λ h. absurd (omega arith); above = λ n h. refl }
IsTop-list (x ∷ xs) = record { among = among_cons x xs (IsTop-list xs); above = above_cons x xs (IsTop-list xs) }

-- a set has no number above its top, so one top is not below another
not_below : (set : ℕ → Bool) (s t : ℕ) → IsTop set s → IsTop set t → s ≤ t
not_below set s t is_s is_t =
    elim (leb_tells s t) [
      | inl le ↦ le.1
      | inr gt ↦ absurd (both_ways (set s) (is_t.above s gt.1) (is_s.among (omega arith)))
    ]

-- a set has one top
pub IsTop-one : (set : ℕ → Bool) (s t : ℕ) → IsTop set s → IsTop set t → s ≡ t
IsTop-one set s t is_s is_t = omega (arith, not_below set s t is_s is_t, not_below set t s is_t is_s)

-- one more number in a set
pub IsTop-with : (set : ℕ → Bool) (t n : ℕ) → IsTop set t → IsTop (λ m. (m == n) || set m) (max n t)
IsTop-with set t n is =
    record {
      among = λ pos.
          (let P : ℕ → Type 0 = λ m. ((m == n) || set m) ≡ true in
          elim (leb_tells t n) [
            | inl le ↦ (let same : n ≡ max n t = omega arith in subst P same (or_left (n == n) (set n) (eq-eqb n n refl)))
            | inr gt ↦
                (let same : t ≡ max n t = omega arith in
                subst P same (or_right (t == n) (set t) (is.among (omega arith))))
          ]);
      above = λ m h. or_from (m == n) (set m) (ne_eqb m n (λ e. omega arith)) (is.above m (omega arith));
    }

-- at 0 a run is empty
none_at : (set : ℕ → Bool) (c : ℕ) → top (filter set (downwards 0 c)) ≡ 0
none_at set zero = refl
none_at set (suc c) = refl

none_in_window : (window t : ℕ) (set : ℕ → Bool) → t ≡ 0 → top (in_window window set t) ≡ t
none_in_window window t set e = rw e (none_at set (max window 1))

-- the top of what a window shows
pub top-in_window : (window t : ℕ) (set : ℕ → Bool) → IsTop set t → top (in_window window set t) ≡ t
top-in_window window t set is =
    elim (leb_tells 1 t) [
      | inl some ↦ top-filter set t (max window 1) (is.among some.1) (omega arith)
      | inr none ↦ none_in_window window t set (omega arith)
    ]

-- what a window shows has the numbers of the set from the window's left edge on
pub is_among-in_window : (window t m : ℕ) (set : ℕ → Bool) → IsTop set t → 0 < m → t < m + max window 1 → is_among (in_window window set t) m ≡ set m
is_among-in_window window t m set is pos near =
    elim (leb_tells m t) [
      | inl le ↦ is_among-filter set t (max window 1) m pos le.1 near
      | inr gt ↦ is_among-above set t (max window 1) m gt.1 ∙ sym (is.above m gt.1)
    ]

-- alike sets agree on each number that the window shows
pub AreAlike-agree : (window t n : ℕ) (a b : ℕ → Bool) → AreAlike window a b t → 0 < n → t < n + max window 1 → a n ≡ b n
AreAlike-agree window t n a b is pos near =
    elim (leb_tells n t) [
      | inl le ↦
          (elim (leb_tells 1 window) [
            | inl some ↦ is.above n pos (omega arith)
            | inr none ↦
                (let last : t ≡ n = omega arith in
                let some : 0 < t = omega arith in
                ap a (sym last) ∙ is.top_a.among some ∙ sym (is.top_b.among some) ∙ ap b last)
          ])
      | inr gt ↦ is.top_a.above n gt.1 ∙ sym (is.top_b.above n gt.1)
    ]

-- of alike sets a window shows one list
pub in_window-alike : (window t : ℕ) (a b : ℕ → Bool) → AreAlike window a b t → in_window window a t ≡ in_window window b t
in_window-alike window t a b is =
    filter-same a b t (max window 1) (λ n pos le near. AreAlike-agree window t n a b is pos near)

-- sets of which a window shows one list are alike
pub AreAlike-in_window : (window t : ℕ) (a b : ℕ → Bool) → IsTop a t → IsTop b t → in_window window a t ≡ in_window window b t → AreAlike window a b t
AreAlike-in_window window t a b is_a is_b e =
    record {
      top_a = is_a;
      top_b = is_b;
      above = λ n pos near.
          sym (is_among-in_window window t n a is_a pos (omega arith)) ∙ ap (λ xs. is_among xs n) e
          ∙ is_among-in_window window t n b is_b pos (omega arith);
    }

-- what a window shows is in normal form
pub normal_form-in_window : (window t : ℕ) (set : ℕ → Bool) → top (in_window window set t) ≡ t → normal_form window (in_window window set t) ≡ in_window window set t
normal_form-in_window window t set e =
    ap (λ s. in_window window (is_among (in_window window set t)) s) e
    ∙ filter-same (is_among (in_window window set t)) set t (max window 1)
    (λ n pos le near. is_among-filter set t (max window 1) n pos le near)
