-- Receipts that have the numbers at which they stand are in order.
use Rattle.std.proofs.Common.{◌≡◌, ℕ, zero, suc, ◌+◌, ◌≤◌, List, [], ◌∷◌, Some, None, Option, refl, sym, subst, arith}
use mathlib.Core.Option.{some}
use lib.ListN.{get_elem?}
use Rattle.xf_types.specs.declared.call.Receipt.{Receipt}
use Rattle.xf_types.specs.History.{IsIncreasing}
use Rattle.xf_views.specs.Log.{Mark, with_receipt, receipts_of}

-- they increase from this number on
abbrev IncreaseFrom : ℕ → List Receipt → Type 0
IncreaseFrom n [] = Unit {0}
IncreaseFrom n (r ∷ rs) = (n ≤ r.number) × IncreaseFrom (r.number + 1) rs

from-less : (k n : ℕ) (rs : List Receipt) → k ≤ n → IncreaseFrom n rs → IncreaseFrom k rs
from-less k n [] le h = tt
from-less k n (r ∷ rs) le h = let low = h.0 in (omega arith, h.1)

in-order : (n : ℕ) (rs : List Receipt) → IncreaseFrom n rs → IsIncreasing rs
in-order n [] h = tt
in-order n (r ∷ []) h = tt
in-order n (r ∷ q ∷ rs) h = let low = h.1.0 in (omega arith, in-order (r.number + 1) (q ∷ rs) h.1)

with-from : (n : ℕ) (o : Option Receipt) (rs : List Receipt) → ((r : Receipt) → o ≡ Some r → r.number ≡ n) → IncreaseFrom (n + 1) rs → IncreaseFrom n (with_receipt o rs)
with-from n None rs h rest = from-less n (n + 1) rs (omega arith) rest
with-from n (Some r) rs h rest = let same = h r refl in (omega arith, subst (λ k. IncreaseFrom (k + 1) rs) (sym same) rest)

numbered-from : (n : ℕ) (log : List Mark) → ((x : ℕ) (m : Mark) (r : Receipt) → get_elem? log x ≡ some m → m.receipt ≡ Some r → r.number ≡ n + x) → IncreaseFrom n (receipts_of log)
numbered-from n [] h = tt
numbered-from n (m ∷ ms) h =
    with-from n m.receipt (receipts_of ms) (λ r e. let q = h zero m r refl e in omega arith)
    (numbered-from (n + 1) ms (λ x u r at e. let q = h (suc x) u r at e in omega arith))

pub increasing : (log : List Mark) → ((x : ℕ) (m : Mark) (r : Receipt) → get_elem? log x ≡ some m → m.receipt ≡ Some r → r.number ≡ x) → IsIncreasing (receipts_of log)
increasing log h = in-order 0 (receipts_of log) (numbered-from 0 log (λ x m r at e. let q = h x m r at e in omega arith))
