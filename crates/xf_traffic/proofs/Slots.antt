-- Slots that are some of so many.
use Rattle.std.proofs.Common.{arith, ℕ, zero, suc, ◌<◌, List, [], ◌∷◌, length, get_or}
use Rattle.xf_chain.specs.Lists.{Within}

-- each is one of them
pub within_at : (n : ℕ) (xs : List ℕ) (k : ℕ) → Within n xs → k < length xs → get_or xs k 0 < n
within_at n [] k w below = absurd (omega arith)
within_at n (x ∷ xs) zero w below = w.0
within_at n (x ∷ xs) (suc k) w below = within_at n xs k w.1 (omega arith)
