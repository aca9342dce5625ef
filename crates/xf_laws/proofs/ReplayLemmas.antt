-- The accepted numbers of a state are told as far as its window: one list for all sets that are alike.
use Rattle.std.proofs.Common.{arith, ℕ, zero, suc, ◌≡◌, ◌<◌, ◌≤◌, max, Bool, true, ◌&&◌, ◌||◌, eqb, List, [], ◌∷◌, filter, refl, ap, sym, ◌∙◌, cond, All, eqb-true, inl, inr}
use Rattle.std.proofs.lemmas.Bool.{eq-eqb, or_left, or_right, cases_lt}
use Rattle.std.proofs.lemmas.Cmp.{nat_eq_equiv}
use Rattle.std.proofs.lemmas.List.Elements.{All-nil, All-cons, All-head, All-tail, All-filter, All-weaker}
use Rattle.std.proofs.lemmas.Map.Made.{is_member-filter, All-is_member}
use Rattle.std.specs.Prelude.{◌==◌}
use Rattle.std.specs.Set.{is_member}
use Rattle.xf_types.specs.Replay.{is_among, top, downwards, in_window, accepted_to, accepted_with}
use Rattle.xf_laws.proofs.CounterLemmas.{among-member}
use Rattle.xf_laws.proofs.ListLemmas.{filter_agree_on}

-- where all pass all are kept
filter-all : (xs : List ℕ) → filter (λ x. true) xs ≡ xs
filter-all [] = refl
filter-all (x ∷ xs) = ap (λ ys. x ∷ ys) (filter-all xs)

-- of the list's numbers those are among what is kept that pass
among-kept : (p : ℕ → Bool) (xs : List ℕ) → All (λ n. is_among (filter p xs) n ≡ p n) xs
among-kept p xs =
    All-weaker (λ n. is_member eqb xs n ≡ true) (λ n. is_among (filter p xs) n ≡ p n)
    (λ n h.
    among-member (filter p xs) n
    ∙ is_member-filter nat_eq_equiv p n (λ x e. ap p (eqb-true n x e)) xs
    ∙ ap (λ (b : Bool). b && p n) h)
    xs (All-is_member nat_eq_equiv xs)

-- none of the numbers from n down is greater
pub downwards-le : (n count : ℕ) → All (λ m. m ≤ n) (downwards n count)
downwards-le n zero = All-nil (λ m. m ≤ n)
downwards-le zero (suc count) = All-nil (λ m. m ≤ 0)
downwards-le (suc n) (suc count) =
    All-cons (λ m. m ≤ suc n) (suc n) (downwards n count) (omega arith)
    (All-weaker (λ m. m ≤ n) (λ m. m ≤ suc n) (λ m le. omega arith) (downwards n count) (downwards-le n count))

-- nor is their top
pub top-le : (xs : List ℕ) (n : ℕ) → All (λ m. m ≤ n) xs → top xs ≤ n
top-le [] n h = omega arith
top-le (x ∷ xs) n h =
    let here : x ≤ n = All-head (λ m. m ≤ n) x xs h in
    let rest : top xs ≤ n = top-le xs n (All-tail (λ m. m ≤ n) x xs h) in
    omega arith

-- the top is in the list, where there is one
top-among : (xs : List ℕ) → 0 < top xs → is_among xs (top xs) ≡ true
top-among [] h = absurd (omega arith)
top-among (x ∷ xs) h =
    let greatest : ℕ = max x (top xs) in
    elim (cases_lt x (top xs)) [
      | inl less ↦
          (let e : greatest ≡ top xs = omega arith in
          or_right (x == greatest) (is_among xs greatest) (ap (is_among xs) e ∙ top-among xs (omega arith)))
      | inr ge ↦ or_left (x == greatest) (is_among xs greatest) (eq-eqb x greatest (omega arith))
    ]

-- a set that has its top is told by what it has of the numbers from the top down
pub told-again : (set : ℕ → Bool) (n count : ℕ) → 0 < count → (0 < n → set n ≡ true)
    → filter set (downwards n count) ≡ filter (is_among (filter set (downwards n count))) (downwards (top (filter set (downwards n count))) count)
told-again set n zero positive has = absurd (omega arith)
told-again set zero (suc count) positive has = refl
told-again set (suc n) (suc count) positive has =
    let xs = downwards (suc n) (suc count) in
    let rest = filter set (downwards n count) in
    let kept : filter set xs ≡ suc n ∷ rest = ap (λ (b : Bool). cond b (suc n ∷ rest) rest) (has (omega arith)) in
    let small : top rest ≤ n = top-le rest n (All-filter set (λ m. m ≤ n) (downwards n count) (downwards-le n count)) in
    let greatest : top (suc n ∷ rest) ≡ suc n = omega arith in
    sym (filter_agree_on (is_among (filter set xs)) set xs (among-kept set xs))
    ∙ ap (λ t. filter (is_among (filter set xs)) (downwards t (suc count))) (sym (ap top kept ∙ greatest))

-- the numbers 1 to start
pub told-accepted_to : (window start : ℕ)
    → accepted_to window start ≡ in_window window (is_among (accepted_to window start)) (top (accepted_to window start))
told-accepted_to window start =
    let count : ℕ = max window 1 in
    let P : List ℕ → List ℕ = λ xs. filter (is_among xs) (downwards (top xs) count) in
    sym (filter-all (downwards start count))
    ∙ told-again (λ n. true) start count (omega arith) (λ h. refl)
    ∙ ap P (filter-all (downwards start count))

-- the greatest of an accepted number and the others is in the set
pub has-greatest : (n : ℕ) (accepted : List ℕ) → 0 < max n (top accepted)
    → ((max n (top accepted) == n) || is_among accepted (max n (top accepted))) ≡ true
has-greatest n accepted h =
    let greatest : ℕ = max n (top accepted) in
    elim (cases_lt n (top accepted)) [
      | inl less ↦
          (let e : greatest ≡ top accepted = omega arith in
          or_right (greatest == n) (is_among accepted greatest) (ap (is_among accepted) e ∙ top-among accepted (omega arith)))
      | inr ge ↦ or_left (greatest == n) (is_among accepted greatest) (eq-eqb greatest n (omega arith))
    ]

-- a set with one more number
pub told-accepted_with : (window : ℕ) (accepted : List ℕ) (n : ℕ)
    → accepted_with window accepted n
    ≡ in_window window (is_among (accepted_with window accepted n)) (top (accepted_with window accepted n))
told-accepted_with window accepted n =
    told-again (λ m. (m == n) || is_among accepted m) (max n (top accepted)) (max window 1) (omega arith) (has-greatest n accepted)
