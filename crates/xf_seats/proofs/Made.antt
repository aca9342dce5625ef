-- A worker that no seat was made for yet drew nothing.
use Rattle.std.proofs.Common.{◌≡◌, ◌≢◌, ℕ, zero, suc, ◌+◌, Bool, List, [], ◌∷◌, refl, ap, ◌∙◌, arith, ne_eqb}
use Rattle.std.specs.Prelude.{if◌then◌else◌}
use mathlib.Core.Option.{some}
use lib.ListN.{get_elem?}
use Rattle.xf_views.specs.Log.{Mark, with_receipt, by_worker, tickets_of, marks_of}

pub own_none : (k : ℕ) (ms : List Mark) → ((i : ℕ) (m : Mark) → get_elem? ms i ≡ some m → m.by ≢ k) → by_worker k ms ≡ []
own_none k [] none' = refl
own_none k (m ∷ ms) none' = ap (λ (b : Bool). if b then with_receipt m.receipt (by_worker k ms) else by_worker k ms) (ne_eqb m.by k (none' zero m refl)) ∙ own_none k ms (λ i u e. none' (suc i) u e)

pub tickets_none : (k : ℕ) (xs : List ℕ) → ((i x : ℕ) → get_elem? xs i ≡ some x → x ≢ k) → tickets_of k xs ≡ 0
tickets_none k [] none' = refl
tickets_none k (x ∷ xs) none' = ap (λ (b : Bool). (if b then 1 else 0) + tickets_of k xs) (ne_eqb x k (none' zero x refl)) ∙ (let h = tickets_none k xs (λ i u e. none' (suc i) u e) in omega arith)

pub marks_none : (k : ℕ) (ms : List Mark) → ((i : ℕ) (m : Mark) → get_elem? ms i ≡ some m → m.by ≢ k) → marks_of k ms ≡ 0
marks_none k [] none' = refl
marks_none k (m ∷ ms) none' = ap (λ (b : Bool). (if b then 1 else 0) + marks_of k ms) (ne_eqb m.by k (none' zero m refl)) ∙ (let h = marks_none k ms (λ i u e. none' (suc i) u e) in omega arith)
