-- A walk visits 129 nodes at most, so what it loads on any words is bounded.
use Rattle.std.proofs.Common.{◌≡◌, ℕ, suc, ◌+◌, ◌*◌, ◌≤◌, List, [], ◌∷◌, length, arith}
use Rattle.std.proofs.Math.Nat.{mul-le-mul_left, mul-suc}

-- so many words for each node
abbrev pub sum_most : ℕ → List ℕ → ℕ
sum_most each [] = 0
sum_most each (node ∷ nodes) = each + sum_most each nodes

sum_is : (each : ℕ) (nodes : List ℕ) → sum_most each nodes ≡ each * length nodes
sum_is each [] = omega arith
sum_is each (node ∷ nodes) =
    let a : each * suc (length nodes) ≡ each * length nodes + each = mul-suc each (length nodes) in
    let b : sum_most each nodes ≡ each * length nodes = sum_is each nodes in
    step (sum_most each nodes) (each * length nodes) (each * suc (length nodes)) b a
  where
    step : (s p q : ℕ) → s ≡ p → q ≡ p + each → each + s ≡ q
    step s p q b a = omega (arith, b, a)

pub sum_small : (each : ℕ) (nodes : List ℕ) → length nodes ≤ 129 → sum_most each nodes ≤ 129 * each
sum_small each nodes h =
    let a : each * length nodes ≤ each * 129 = mul-le-mul_left each h in
    let b : sum_most each nodes ≡ each * length nodes = sum_is each nodes in
    step (each * length nodes) (sum_most each nodes) a b
  where
    step : (p s : ℕ) → p ≤ each * 129 → s ≡ p → s ≤ 129 * each
    step p s a b = omega (arith, a, b)
