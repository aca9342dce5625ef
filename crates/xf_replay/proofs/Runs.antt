-- Filters of a run of numbers that goes down.
use Rattle.std.proofs.Common.{arith, ◌≡◌, ℕ, zero, suc, ◌+◌, ◌<◌, ◌≤◌, List, [], ◌∷◌, Bool, true, false, cond, refl, ap, sym, ◌∙◌, ◌⊎◌, inl, inr}
use Rattle.std.specs.Prelude.{filter, ◌==◌}
use Rattle.std.proofs.lemmas.Bool.Decides.{nat_tests, leb_tells}
use Rattle.xf_replay.specs.Replay.{is_among, top, downwards}

-- no number of a run is above its first
pub top-le : (p : ℕ → Bool) (t c : ℕ) → top (filter p (downwards t c)) ≤ t
top-le p t zero = omega arith
top-le p zero (suc c) = omega arith
top-le p (suc t) (suc c) =
    elim (p (suc t)) as (λ b. top (cond b (suc t ∷ filter p (downwards t c)) (filter p (downwards t c))) ≤ suc t)
    [ true ↦ omega (arith, top-le p t c) | false ↦ omega (arith, top-le p t c) ]

-- the first is the greatest, where it passes the test
pub top-filter : (p : ℕ → Bool) (t c : ℕ) → p t ≡ true → 0 < c → top (filter p (downwards t c)) ≡ t
top-filter p t zero = λ h l. absurd (omega arith)
top-filter p zero (suc c) = λ h l. refl
top-filter p (suc t) (suc c) = λ h l. rw h (omega (arith, top-le p t c))

-- tests that agree on the run leave one list
pub filter-same : (p q : ℕ → Bool) (t c : ℕ) → ((n : ℕ) → 0 < n → n ≤ t → t < n + c → p n ≡ q n)
    → filter p (downwards t c) ≡ filter q (downwards t c)
filter-same p q t zero = λ h. refl
filter-same p q zero (suc c) = λ h. refl
filter-same p q (suc t) (suc c) =
    λ h.
    let head = h (suc t) (omega arith) (omega arith) (omega arith) in
    let tail = filter-same p q t c (λ n l m r. h n l (omega arith) (omega arith)) in
    λ i. cond (head i) (suc t ∷ tail i) (tail i)

-- a test that all pass leaves the list
pub filter-all : (xs : List ℕ) → filter (λ _. true) xs ≡ xs
filter-all [] = refl
filter-all (x ∷ xs) = ap (λ ys. x ∷ ys) (filter-all xs)

-- a number above the first is not in the run
pub is_among-above : (p : ℕ → Bool) (t c n : ℕ) → t < n → is_among (filter p (downwards t c)) n ≡ false
is_among-above p t zero n = λ l. refl
is_among-above p zero (suc c) n = λ l. refl
is_among-above p (suc t) (suc c) n =
    elim (p (suc t)) as (λ b. suc t < n → is_among (cond b (suc t ∷ filter p (downwards t c)) (filter p (downwards t c))) n ≡ false) [
      | true ↦ (λ l. let rest = is_among-above p t c n (omega arith) in let other : (suc t == n) ≡ false = grind (arith, nat_tests) in rw (other, rest) refl)
      | false ↦ (λ l. is_among-above p t c n (omega arith))
    ]

-- a number is the first of a run or comes later
at_most : (t n : ℕ) → n ≤ suc t → (n ≡ suc t) ⊎ (n ≤ t)
at_most t n h = elim (leb_tells n t) [ inl l ↦ inr l.1 | inr g ↦ inl (omega arith) ]

-- a number other than the first is sought in the rest
is_among_rest : (p : ℕ → Bool) (t c n : ℕ) → (suc t == n) ≡ false → is_among (filter p (downwards (suc t) (suc c))) n ≡ is_among (filter p (downwards t c)) n
is_among_rest p t c n other =
    elim (p (suc t)) as (λ b. is_among (cond b (suc t ∷ filter p (downwards t c)) (filter p (downwards t c))) n ≡ is_among (filter p (downwards t c)) n)
    [ true ↦ rw other refl | false ↦ refl ]

-- the first is in the filtered run where it passes the test
is_among_first : (p : ℕ → Bool) (t c n : ℕ) → n ≡ suc t → is_among (filter p (downwards (suc t) (suc c))) n ≡ p n
is_among_first p t c n same =
    let here : (suc t == n) ≡ true = grind (arith, nat_tests) in
    let above = is_among-above p t c n (omega arith) in
    elim (p (suc t))
    as (λ b. p (suc t) ≡ b → is_among (cond b (suc t ∷ filter p (downwards t c)) (filter p (downwards t c))) n ≡ p n)
    [ true ↦ (λ e. rw (here, same, e) refl) | false ↦ (λ e. rw (above, same, e) refl) ] refl

-- a number of the run is in the filtered run where it passes the test
pub is_among-filter : (p : ℕ → Bool) (t c n : ℕ) → 0 < n → n ≤ t → t < n + c → is_among (filter p (downwards t c)) n ≡ p n
is_among-filter p t zero n = λ l m r. absurd (omega arith)
is_among-filter p zero (suc c) n = λ l m r. absurd (omega arith)
is_among-filter p (suc t) (suc c) n =
    λ l m r.
    let head : (n ≡ suc t) ⊎ (n ≤ t) = at_most t n m in
    elim head [
      | inl same ↦ is_among_first p t c n same
      | inr less ↦
          (let tail = is_among-filter p t c n l less (omega arith) in
          let other : (suc t == n) ≡ false = grind (arith, nat_tests) in
          is_among_rest p t c n other ∙ tail)
    ]

-- the numbers of a whole run
pub is_among-downwards : (t c n : ℕ) → 0 < n → n ≤ t → t < n + c → is_among (downwards t c) n ≡ true
is_among-downwards t c n l m r =
    ap (λ xs. is_among xs n) (sym (filter-all (downwards t c))) ∙ is_among-filter (λ _. true) t c n l m r
