-- A pool of one slot: the slot that it can give, how many slots are out or wait, and how many there are.
use Rattle.std.proofs.Common.{subst}
use Rattle.std.specs.Prelude.{⊤, cond, ◌≡◌, ℕ, ◌+◌, ◌<◌, ◌≤◌, ◌&&◌, Bool, true, false, nat_lt, Option, IsSome, is_none}

-- no more slots are out or wait than there are, and fewer where there is one to give
pub record IsOneSlot (slot : Option ℕ) (live waiting capacity : ℕ) : Type 0 where
  pub fits : live + waiting ≤ capacity
  pub room : IsSome slot → live + waiting < capacity

-- there is no slot to give, and yet some slot is neither out nor waits
abbrev pub is_spent : Option ℕ → ℕ → ℕ → ℕ → Bool
is_spent slot live waiting capacity = is_none slot && nat_lt (live + waiting) capacity

-- a pool that can be spent isn't one that never is
pub never_lasts : (spent : Bool) → false ≡ true → spent ≡ false
never_lasts spent e = absurd (subst (λ b. cond b ⊥ ⊤) e tt)
