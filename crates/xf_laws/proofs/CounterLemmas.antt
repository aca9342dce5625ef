-- Numbers in cyclic order: of more numbers than are taken one is free.
use Rattle.std.proofs.Common.{arith, ℕ, zero, suc, ◌≡◌, ◌+◌, ◌<◌, ◌≤◌, ◌⊎◌, inl, inr, Bool, true, false, ◌||◌, List, [], ◌∷◌, length, map, get_or, refl, ap, sym, ◌∙◌, cond, eqb, eqb-true, AllPairs}
use Rattle.std.proofs.lemmas.Bool.Decides.{Decides-eqb, nat_tests}
use Rattle.std.proofs.lemmas.Cmp.{nat_eq_equiv}
use Rattle.std.proofs.lemmas.List.Folds.{Any-from_list_any}
use Rattle.std.proofs.lemmas.List.FromFn.{length-map-range_with_len, get_or-map-range_with_len}
use Rattle.std.proofs.lemmas.Map.Made.{length-le_from_is_member, IsDistinct-from_AllPairs}
use Rattle.std.specs.List.{range_with_len}
use Rattle.std.specs.Prelude.{◌==◌}
use Rattle.std.specs.Set.{is_member}
use Rattle.xf_types.specs.Counters.{next_in, first_free, nth_from, IsFirstFree}
use Rattle.xf_types.specs.Replay.{is_among}

-- membership by the one order of the test's arguments and by the other
pub among-member : (numbers : List ℕ) (n : ℕ) → is_among numbers n ≡ is_member eqb numbers n
among-member [] n = refl
among-member (m ∷ numbers) n =
    let h : eqb m n ≡ eqb n m = grind (arith, nat_tests) in
    ap (λ (b : Bool). b || is_among numbers n) h ∙ ap (λ (b : Bool). eqb n m || b) (among-member numbers n)

-- of more different numbers than the list is long one is not in the list
pub one_is_out : (numbers : List ℕ) (candidate : ℕ → ℕ)
    → ((i j : ℕ) → i < j → j ≤ length numbers → candidate i ≡ candidate j → ⊥)
    → ((i : ℕ) → i ≤ length numbers → is_among numbers (candidate i) ≡ true) → ⊥
one_is_out numbers candidate differ among =
    let n : ℕ = length numbers + 1 in
    let all : List ℕ = map candidate (range_with_len 0 n) in
    let long : length all ≡ n = length-map-range_with_len candidate 0 n in
    let apart : AllPairs (λ x y. x ≡ y → ⊥) all =
    λ i j d lt within e.
    let in_i : i < n = omega arith in
    let in_j : j < n = omega arith in
    let at_i : get_or all i d ≡ candidate i = get_or-map-range_with_len candidate 0 n i i d in_i (omega arith) in
    let at_j : get_or all j d ≡ candidate j = get_or-map-range_with_len candidate 0 n j j d in_j (omega arith) in
    differ i j lt (omega arith) (sym at_i ∙ e ∙ at_j) in
    let inside : (q : ℕ) → is_member eqb all q ≡ true → is_member eqb numbers q ≡ true =
    λ q h.
    let found = Any-from_list_any (eqb q) all h in
    let i : ℕ = found.0 in
    let x : ℕ = found.1 in
    let within : i < n = omega (arith, found.2, long) in
    let at : candidate i ≡ x = sym (get_or-map-range_with_len candidate 0 n i i x within (omega arith)) ∙ found.3 in
    let is : q ≡ candidate i = eqb-true q x found.4 ∙ sym at in
    sym (among-member numbers q) ∙ (ap (λ (y : ℕ). is_among numbers y) is ∙ among i (omega arith)) in
    let le : length all ≤ length numbers =
    length-le_from_is_member nat_eq_equiv all numbers (IsDistinct-from_AllPairs Decides-eqb all apart) inside in
    omega arith

-- the number n places after k, where n is less than there are numbers
nth_from-is : (greatest k n : ℕ) → 0 < k → k ≤ greatest → n < greatest
    → ((k + n ≤ greatest) × (nth_from greatest k n ≡ k + n)) ⊎ ((greatest < k + n) × (nth_from greatest k n + greatest ≡ k + n))
nth_from-is greatest k zero low high few = inl (omega arith, omega arith)
nth_from-is greatest k (suc n) low high few =
    elim (k == greatest)
    as (λ b. (k == greatest) ≡ b →
    ((k + suc n ≤ greatest) × (nth_from greatest (cond b 1 (k + 1)) n ≡ k + suc n))
    ⊎ ((greatest < k + suc n) × (nth_from greatest (cond b 1 (k + 1)) n + greatest ≡ k + suc n))) [
      | true ↦ λ is.
          let same : k ≡ greatest = eqb-true k greatest is in
          elim (nth_from-is greatest 1 n (omega arith) (omega arith) (omega arith)) [
            | inl w ↦ inr (omega arith, omega arith)
            | inr w ↦ absurd (omega arith)
          ]
      | false ↦ λ is.
          let less : k < greatest = grind (arith, nat_tests) in
          elim (nth_from-is greatest (k + 1) n (omega arith) (omega arith) (omega arith)) [
            | inl w ↦ inl (omega arith, omega arith)
            | inr w ↦ inr (omega arith, omega arith)
          ]
    ] refl

-- the numbers up to less places than there are numbers differ
pub nth_from-differ : (greatest k i j : ℕ) → 0 < k → k ≤ greatest → i < j → j < greatest
    → nth_from greatest k i ≡ nth_from greatest k j → ⊥
nth_from-differ greatest k i j low high lt few e =
    elim (nth_from-is greatest k i low high (omega arith)) [
      | inl v ↦ elim (nth_from-is greatest k j low high few) [ inl w ↦ omega arith | inr w ↦ omega arith ]
      | inr v ↦ elim (nth_from-is greatest k j low high few) [ inl w ↦ omega arith | inr w ↦ omega arith ]
    ]

-- each number stays in the range
pub nth_from-in : (greatest k n : ℕ) → 0 < k → k ≤ greatest → n < greatest → (0 < nth_from greatest k n) × (nth_from greatest k n ≤ greatest)
nth_from-in greatest k n low high few =
    elim (nth_from-is greatest k n low high few) [ inl w ↦ (omega arith, omega arith) | inr w ↦ (omega arith, omega arith) ]

-- the next number stays in the range
pub next_in-in : (greatest k : ℕ) → 0 < k → k ≤ greatest → (0 < next_in greatest k) × (next_in greatest k ≤ greatest)
next_in-in greatest k low high =
    elim (k == greatest) as (λ b. (k == greatest) ≡ b → (0 < cond b 1 (k + 1)) × (cond b 1 (k + 1) ≤ greatest)) [
      | true ↦ λ is. (omega arith, omega arith)
      | false ↦ λ is.
          let less : k < greatest = grind (arith, nat_tests) in
          (omega arith, omega arith)
    ] refl

-- the first number is free
found_here : (taken : ℕ → Bool) (greatest k : ℕ) → taken k ≡ false → IsFirstFree taken greatest k k
found_here taken greatest k e = record { steps = 0; at = refl; free = e; before = λ n h. absurd (omega arith) }

-- the first number is taken, and among those after it one was found
found_later : (taken : ℕ → Bool) (greatest k found : ℕ) → taken k ≡ true → IsFirstFree taken greatest (next_in greatest k) found
    → IsFirstFree taken greatest k found
found_later taken greatest k found e h =
    record { steps = suc h.steps; at = h.at; free = h.free; before = earlier }
  where
    earlier : (n : ℕ) → n < suc h.steps → taken (nth_from greatest k n) ≡ true
    earlier zero lt = e
    earlier (suc n) lt = h.before n (omega arith)

-- each number that is tried is taken
AllTaken : (ℕ → Bool) → ℕ → ℕ → ℕ → Type 0
AllTaken taken greatest k tries = (n : ℕ) → n ≤ tries → taken (nth_from greatest k n) ≡ true

-- the first number that is tried is taken, and no other is tried
taken_here : (taken : ℕ → Bool) (greatest k : ℕ) → taken k ≡ true → AllTaken taken greatest k 0
unfolding AllTaken
taken_here taken greatest k e zero h = e
taken_here taken greatest k e (suc n) h = absurd (omega arith)

-- it is taken, and so are those that are tried after it
taken_later : (taken : ℕ → Bool) (greatest k tries : ℕ) → taken k ≡ true → AllTaken taken greatest (next_in greatest k) tries
    → AllTaken taken greatest k (suc tries)
unfolding AllTaken
taken_later taken greatest k tries e t zero h = e
taken_later taken greatest k tries e t (suc n) h = t n (omega arith)

-- the walk finds the first free number, or each number that it tries is taken
found_or_taken : (taken : ℕ → Bool) (greatest k tries : ℕ)
    → IsFirstFree taken greatest k (first_free taken greatest k tries) ⊎ AllTaken taken greatest k tries
found_or_taken taken greatest k zero =
    elim (taken k) as (λ b. taken k ≡ b → IsFirstFree taken greatest k k ⊎ AllTaken taken greatest k 0) [
      | true ↦ λ e. inr (taken_here taken greatest k e)
      | false ↦ λ e. inl (found_here taken greatest k e)
    ] refl
found_or_taken taken greatest k (suc tries) =
    elim (taken k)
    as (λ b. taken k ≡ b →
    IsFirstFree taken greatest k (cond b (first_free taken greatest (next_in greatest k) tries) k)
    ⊎ AllTaken taken greatest k (suc tries)) [
      | true ↦ λ e.
          elim (found_or_taken taken greatest (next_in greatest k) tries) [
            | inl h ↦ inl (found_later taken greatest k (first_free taken greatest (next_in greatest k) tries) e h)
            | inr t ↦ inr (taken_later taken greatest k tries e t)
          ]
      | false ↦ λ e. inl (found_here taken greatest k e)
    ] refl

-- not all can be taken: they differ, and are more than the list is long
none_left : (taken : ℕ → Bool) (numbers : List ℕ) (greatest k tries : ℕ) → 0 < k → k ≤ greatest → length numbers ≤ tries
    → tries < greatest → ((n : ℕ) → taken n ≡ true → is_among numbers n ≡ true) → AllTaken taken greatest k tries → ⊥
unfolding AllTaken
none_left taken numbers greatest k tries low high enough few among t =
    one_is_out numbers (nth_from greatest k)
    (λ i j lt within. nth_from-differ greatest k i j low high lt (omega arith))
    (λ i within. among (nth_from greatest k i) (t i (omega arith)))

-- where fewer numbers are taken than there are, and as many are tried as are taken, the walk finds the first free one
pub first_free-is : (taken : ℕ → Bool) (numbers : List ℕ) (greatest k tries : ℕ) → 0 < k → k ≤ greatest → length numbers ≤ tries
    → tries < greatest → ((n : ℕ) → taken n ≡ true → is_among numbers n ≡ true)
    → IsFirstFree taken greatest k (first_free taken greatest k tries)
first_free-is taken numbers greatest k tries low high enough few among =
    elim (found_or_taken taken greatest k tries) [
      | inl h ↦ h
      | inr t ↦ absurd (none_left taken numbers greatest k tries low high enough few among t)
    ]

-- the number that is found is one of the range
pub first_free-in : (taken : ℕ → Bool) (greatest k tries : ℕ) → 0 < k → k ≤ greatest
    → (0 < first_free taken greatest k tries) × (first_free taken greatest k tries ≤ greatest)
first_free-in taken greatest k zero low high = (low, high)
first_free-in taken greatest k (suc tries) low high =
    elim (taken k)
    as (λ b. (0 < cond b (first_free taken greatest (next_in greatest k) tries) k)
    × (cond b (first_free taken greatest (next_in greatest k) tries) k ≤ greatest)) [
      | true ↦ (let next = next_in-in greatest k low high in first_free-in taken greatest (next_in greatest k) tries next.0 next.1)
      | false ↦ (low, high)
    ]
