-- There are as many tickets and draws as the workers drew in all.
use Rattle.std.proofs.Common.{◌≡◌, ℕ, zero, suc, ◌+◌, ◌*◌, ◌<◌, ◌≤◌, Bool, List, [], ◌∷◌, length, refl, ap, arith, eq-eqb, ne_eqb, suc-mul}
use mathlib.Core.Logic.{dite}
use native.Mathlib.Decide.{ℕ_discrete}
use Rattle.std.specs.Prelude.{if◌then◌else◌, ◌==◌}
use mathlib.Core.Option.{some}
use lib.ListN.{get_elem?}
use Rattle.xf_views.specs.Log.{Mark, tickets_of, marks_of}

sum_to : ℕ → (ℕ → ℕ) → ℕ
sum_to zero f = 0
sum_to (suc n) f = sum_to n f + f n

bit : Bool → ℕ
bit b = if b then 1 else 0

at_one : ℕ → ℕ → ℕ
at_one x k = if x == k then 1 else 0

sum_add : (n : ℕ) (f g : ℕ → ℕ) → sum_to n (λ k. f k + g k) ≡ sum_to n f + sum_to n g
unfolding sum_to
sum_add zero f g = refl
sum_add (suc n) f g = let h = sum_add n f g in omega arith

sum_high : (n x : ℕ) → n ≤ x → sum_to n (at_one x) ≡ 0
unfolding sum_to at_one bit
sum_high zero x h = refl
sum_high (suc n) x h = let e : at_one x n ≡ 0 = ap bit (ne_eqb x n (λ i. omega arith)) in let t = sum_high n x (omega arith) in omega arith

sum_one : (n x : ℕ) → x < n → sum_to n (at_one x) ≡ 1
unfolding sum_to at_one bit
sum_one zero x h = absurd (omega arith)
sum_one (suc n) x h = dite (ℕ_discrete x n)
    (λ e. let i : at_one x n ≡ 1 = ap bit (eq-eqb x n e) in let t = sum_high n x (omega arith) in omega arith)
    (λ ne. let i : at_one x n ≡ 0 = ap bit (ne_eqb x n ne) in let t = sum_one n x (omega arith) in omega arith)

sum_zero : (n : ℕ) → sum_to n (λ k. 0) ≡ 0
unfolding sum_to
sum_zero zero = refl
sum_zero (suc n) = let h = sum_zero n in omega arith

sum_times : (n : ℕ) (xs : List ℕ) → ((t k : ℕ) → get_elem? xs t ≡ some k → k < n) → sum_to n (λ k. tickets_of k xs) ≡ length xs
unfolding at_one
sum_times n [] all = sum_zero n
sum_times n (x ∷ xs) all = let h = sum_times n xs (λ t k e. all (suc t) k e) in let a = sum_add n (at_one x) (λ k. tickets_of k xs) in let o = sum_one n x (all zero x refl) in omega arith

sum_marks : (n : ℕ) (log : List Mark) → ((x : ℕ) (m : Mark) → get_elem? log x ≡ some m → m.by < n) → sum_to n (λ k. marks_of k log) ≡ length log
unfolding at_one
sum_marks n [] all = sum_zero n
sum_marks n (m ∷ ms) all = let h = sum_marks n ms (λ t k e. all (suc t) k e) in let a = sum_add n (at_one m.by) (λ k. marks_of k ms) in let o = sum_one n m.by (all zero m refl) in omega arith

sum_low : (n most : ℕ) (f : ℕ → ℕ) → ((k : ℕ) → f k ≤ most) → sum_to n f ≤ n * most
unfolding sum_to
sum_low zero most f low = omega arith
sum_low (suc n) most f low = let h = sum_low n most f low in let l = low n in let s = suc-mul n most in omega arith

pub drawn_low : (n most : ℕ) (xs : List ℕ) (log : List Mark) → ((t k : ℕ) → get_elem? xs t ≡ some k → k < n) → ((x : ℕ) (m : Mark) → get_elem? log x ≡ some m → m.by < n) → ((k : ℕ) → tickets_of k xs + marks_of k log ≤ most) → length xs + length log ≤ n * most
drawn_low n most xs log a b low = let s = sum_low n most (λ k. tickets_of k xs + marks_of k log) low in let t = sum_add n (λ k. tickets_of k xs) (λ k. marks_of k log) in let u = sum_times n xs a in let v = sum_marks n log b in omega arith
