-- The search for a free number.
use Rattle.std.proofs.Common.{◌≡◌, ℕ, suc, Bool, true, refl}
use Rattle.xf_types.specs.Counters.{first_free, next_in}

-- a number that is taken is passed
pub first_free-taken : (taken : ℕ → Bool) (greatest k tries left : ℕ) → tries ≡ suc left → taken k ≡ true
    → first_free taken greatest k tries ≡ first_free taken greatest (next_in greatest k) left
first_free-taken taken greatest k tries left e t = rw e (rw t refl)
