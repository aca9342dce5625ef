-- Which pools take back one slot after the other.
use Rattle.std.specs.Prelude.{◌≡◌, ℕ, ◌<◌, Bool, true}

-- A pool of a kind takes back one slot after the other: it lasts, or takes any slot while one is out.
pub data TakesBack {P : Type 0} (lasts : Bool) (taken : P → ℕ) (takes : P → ℕ → Type 0) : Type 0 where
  Lasts : (is : lasts ≡ true) → TakesBack lasts taken takes
  TakesAny : (any : (pool : P) (slot : ℕ) → 0 < taken pool → takes pool slot) → TakesBack lasts taken takes
