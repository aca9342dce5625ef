-- Places in a list.
use Rattle.std.proofs.Common.{arith, ◌≡◌, ℕ, ◌≤◌, ◌+◌, suc, List, [], ◌∷◌, Bool, true, false, cond, not, length}
use Rattle.std.specs.Prelude.{unwrap_or, position, nat_lt, Some, None}
use Rattle.std.specs.List.{position_or_len}
use Rattle.std.proofs.lemmas.Bool.Decides.{nat_tests}

-- no place is past the end
pub position_or_len-le : {X : Type 0} (p : X → Bool) (xs : List X) → position_or_len p xs ≤ length xs
position_or_len-le p [] = omega arith
position_or_len-le p (x ∷ xs) =
    elim (p x) as (λ b. cond (not b) (1 + position_or_len p xs) 0 ≤ suc (length xs))
    [ true ↦ omega arith | false ↦ omega (arith, position_or_len-le p xs) ]

below_or_end : (i n : ℕ) → i ≤ n → unwrap_or (cond (nat_lt i n) (Some i) None) n ≡ i
below_or_end i n h = grind (arith, nat_tests)

-- a place that was looked for, or the end
pub unwrap_or-position : {X : Type 0} (p : X → Bool) (xs : List X) → unwrap_or (position p xs) (length xs) ≡ position_or_len p xs
unwrap_or-position p xs = below_or_end (position_or_len p xs) (length xs) (position_or_len-le p xs)
