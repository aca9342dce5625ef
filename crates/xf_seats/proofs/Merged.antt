-- The parts of a history together, and in order.
use Rattle.std.proofs.Common.{◌≡◌, ◌≢◌, ℕ, zero, suc, ◌+◌, ◌<◌, ◌≤◌, ◌==◌, not, List, [], ◌∷◌, ◌++◌, length, filter, cond, refl, sym, ap, ◌∙◌, subst, arith, ne_eqb, eq-eqb, ⊎_elim, ◌⊎◌, inl, inr}
use Rattle.std.specs.Prelude.{All, Contains, IsPermutation}
use mathlib.Core.Option.{some}
use mathlib.Core.Logic.{dite}
use native.Mathlib.Decide.{ℕ_discrete}
use lib.ListN.{get_elem?}
use Rattle.std.proofs.lemmas.List.Elements.{All-nil, All-cons, All-head, All-tail, All-weaker, All-contains, All-contains_itself}
use Rattle.std.proofs.lemmas.List.Sorted.{IsPermutation-refl, IsPermutation-sym, IsPermutation-trans, IsPermutation-append_right, IsPermutation-filter_both, All-permutation}
use Rattle.xf_types.specs.declared.call.Receipt.{Receipt}
use Rattle.xf_types.specs.History.{IsIncreasing, joined}
use Rattle.xf_seats.specs.Ends.{of_worker, AreParts}

-- what is left without one worker
abbrev others : ℕ → List Receipt → List Receipt
others k rs = filter (λ r. not (r.worker == k)) rs

-- of another worker nothing is lost
left_worker : (k j : ℕ) (rs : List Receipt) → j ≢ k → of_worker j rs ≡ of_worker j (others k rs)
left_worker k j [] apart = refl
left_worker k j (r ∷ rs) apart = dite (ℕ_discrete r.worker k)
    (λ same.
    ap (λ b. cond b (r ∷ of_worker j rs) (of_worker j rs)) (ne_eqb r.worker j (λ e. apart (sym e ∙ same)))
    ∙ (left_worker k j rs apart
    ∙ sym (ap (λ b. of_worker j (cond (not b) (r ∷ others k rs) (others k rs))) (eq-eqb r.worker k same))))
    (λ far.
    ap (λ l. cond (r.worker == j) (r ∷ l) l) (left_worker k j rs apart)
    ∙ sym (ap (λ b. of_worker j (cond (not b) (r ∷ others k rs) (others k rs))) (ne_eqb r.worker k far)))

-- those that are left have other workers, within the same bounds
left_within : (k high : ℕ) (rs : List Receipt) → All (λ r. (k ≤ r.worker) × (r.worker < high)) rs → All (λ r. (k + 1 ≤ r.worker) × (r.worker < high)) (others k rs)
left_within k high [] all = All-nil (λ (r : Receipt). (k + 1 ≤ r.worker) × (r.worker < high))
left_within k high (r ∷ rs) all =
    let p = All-head (λ (q : Receipt). (k ≤ q.worker) × (q.worker < high)) r rs all in
    let rest = left_within k high rs (All-tail (λ (q : Receipt). (k ≤ q.worker) × (q.worker < high)) r rs all) in
    dite (ℕ_discrete r.worker k)
    (λ same. subst (λ b. All (λ (q : Receipt). (k + 1 ≤ q.worker) × (q.worker < high)) (cond (not b) (r ∷ others k rs) (others k rs))) (sym (eq-eqb r.worker k same)) rest)
    (λ far. let low = p.0 in subst (λ b. All (λ (q : Receipt). (k + 1 ≤ q.worker) × (q.worker < high)) (cond (not b) (r ∷ others k rs) (others k rs))) (sym (ne_eqb r.worker k far))
    (All-cons (λ (q : Receipt). (k + 1 ≤ q.worker) × (q.worker < high)) r (others k rs) (omega arith, p.1) rest))

-- the parts of the workers from k on
parts_from : (k : ℕ) (lists : List (List Receipt)) (rs : List Receipt) → ((j : ℕ) (l : List Receipt) → get_elem? lists j ≡ some l → l ≡ of_worker (k + j) rs)
    → All (λ r. (k ≤ r.worker) × (r.worker < k + length lists)) rs → IsPermutation (joined lists) rs
parts_from k [] [] each all = IsPermutation-refl []
parts_from k [] (r ∷ rs) each all = let p = All-head (λ (q : Receipt). (k ≤ q.worker) × (q.worker < k + 0)) r rs all in let low = p.0 in let high = p.1 in absurd (omega arith)
parts_from k (l ∷ ls) rs each all =
    let mine : l ≡ of_worker k rs = each zero l refl ∙ ap (λ n. of_worker n rs) (omega arith) in
    let rest : IsPermutation (joined ls) (others k rs) = parts_from (k + 1) ls (others k rs)
    (λ j m at. each (suc j) m at ∙ (ap (λ n. of_worker n rs) (omega arith) ∙ left_worker k (k + 1 + j) rs (λ e. omega arith)))
    (All-weaker (λ (r : Receipt). (k + 1 ≤ r.worker) × (r.worker < k + suc (length ls))) (λ (r : Receipt). (k + 1 ≤ r.worker) × (r.worker < k + 1 + length ls)) (λ r p. let high = p.1 in (p.0, omega arith)) (others k rs) (left_within k (k + suc (length ls)) rs all)) in
    subst (λ m. IsPermutation (m ++ joined ls) rs) (sym mine)
    (IsPermutation-trans (of_worker k rs ++ joined ls) (of_worker k rs ++ others k rs) rs
    (IsPermutation-append_right (of_worker k rs) (joined ls) (others k rs) rest)
    (IsPermutation-sym rs (of_worker k rs ++ others k rs) (IsPermutation-filter_both (λ (r : Receipt). r.worker == k) (λ (r : Receipt). not (r.worker == k)) (λ r. refl) rs)))

pub parts_are_all : (history : List Receipt) (lists : List (List Receipt)) → AreParts history lists → IsPermutation (joined lists) history
parts_are_all history lists p =
    parts_from 0 lists history (λ j l at. p.each j l at ∙ ap (λ n. of_worker n history) (omega arith))
    (All-weaker (λ (r : Receipt). r.worker < length lists) (λ (r : Receipt). (0 ≤ r.worker) × (r.worker < 0 + length lists)) (λ r low. (omega arith, omega arith)) history p.all)

-- the first number is the least
pub least : (x : Receipt) (xs : List Receipt) → IsIncreasing (x ∷ xs) → All (λ r. x.number < r.number) xs
least x [] inc = All-nil (λ (r : Receipt). x.number < r.number)
least x (y ∷ ys) inc =
    let low = inc.0 in
    All-cons (λ (r : Receipt). x.number < r.number) y ys low
    (All-weaker (λ (r : Receipt). y.number < r.number) (λ (r : Receipt). x.number < r.number) (λ r h. omega arith) ys (least y ys inc.1))

pub later : (x : Receipt) (xs : List Receipt) → IsIncreasing (x ∷ xs) → IsIncreasing xs
later x [] inc = tt
later x (y ∷ ys) inc = inc.1

head_or : (x y : Receipt) (xs : List Receipt) → Contains (x ∷ xs) y → (x ≡ y) ⊎ Contains xs y
head_or x y xs (zero, low, is) = inl is
head_or x y xs (suc k, low, is) = inr (k, omega (arith, low), is)

not_empty : (x : Receipt) → Contains [] x → ⊥
not_empty x h = let low = h.1 in absurd (omega (arith, low))

-- lists in order with the same elements are the same
same_list : (xs ys : List Receipt) → IsIncreasing xs → IsIncreasing ys → All (Contains ys) xs → All (Contains xs) ys → xs ≡ ys
same_list [] [] a b f g = refl
same_list [] (y ∷ ys) a b f g = absurd (not_empty y (All-head (Contains []) y ys g))
same_list (x ∷ xs) [] a b f g = absurd (not_empty x (All-head (Contains []) x xs f))
same_list (x ∷ xs) (y ∷ ys) a b f g =
    let low_x = least x xs a in
    let low_y = least y ys b in
    let same : x ≡ y = ⊎_elim
    (λ (p : y ≡ x). sym p)
    (λ (p : Contains ys x). ⊎_elim
    (λ (q : x ≡ y). q)
    (λ (q : Contains xs y).
    let u = All-contains (λ (r : Receipt). y.number < r.number) ys x low_y p in
    let w = All-contains (λ (r : Receipt). x.number < r.number) xs y low_x q in
    absurd (omega arith))
    (head_or x y xs (All-head (Contains (x ∷ xs)) y ys g)))
    (head_or y x ys (All-head (Contains (y ∷ ys)) x xs f)) in
    ap (λ r. r ∷ xs) same
    ∙ ap (λ rs. y ∷ rs) (same_list xs ys (later x xs a) (later y ys b)
    (strip y xs ys (All-weaker (λ (r : Receipt). x.number < r.number) (λ (r : Receipt). y.number < r.number) (λ r h. subst (λ (z : Receipt). z.number < r.number) same h) xs low_x) (All-tail (Contains (y ∷ ys)) x xs f))
    (strip x ys xs (All-weaker (λ (r : Receipt). y.number < r.number) (λ (r : Receipt). x.number < r.number) (λ r h. subst (λ (z : Receipt). z.number < r.number) (sym same) h) ys low_y) (All-tail (Contains (x ∷ xs)) y ys g)))
  where
    strip : (z : Receipt) (rs qs : List Receipt) → All (λ r. z.number < r.number) rs → All (Contains (z ∷ qs)) rs → All (Contains qs) rs
    strip z [] qs low all = All-nil (Contains qs)
    strip z (r ∷ rs) qs low all = All-cons (Contains qs) r rs
        (⊎_elim
        (λ (p : z ≡ r). let h = All-head (λ (q : Receipt). z.number < q.number) r rs low in let e : z.number ≡ r.number = ap (λ (q : Receipt). q.number) p in absurd (omega arith))
        (λ (p : Contains qs r). p)
        (head_or z r qs (All-head (Contains (z ∷ qs)) r rs all)))
        (strip z rs qs (All-tail (λ (q : Receipt). z.number < q.number) r rs low) (All-tail (Contains (z ∷ qs)) r rs all))

pub merged_is_history : (history merged : List Receipt) → IsIncreasing history → IsIncreasing merged → IsPermutation merged history → merged ≡ history
merged_is_history history merged a b p =
    same_list merged history b a
    (All-permutation (Contains history) history merged (IsPermutation-sym merged history p) (All-contains_itself history))
    (All-permutation (Contains merged) merged history p (All-contains_itself merged))
