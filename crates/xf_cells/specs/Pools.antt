-- What a pool's calls leave: how many slots are out, which it can give, and which it can take back, before and now.
use Rattle.std.specs.Prelude.{◌≡◌, ◌≢◌, ℕ, ◌+◌, ◌<◌, Bool, true}

-- a slot was given, and is out now
pub record Given (slot : ℕ) (lasts : Bool) (before now : ℕ) (gave gives took takes : ℕ → Type 0) : Type 0 where
  pub could : gave slot
  pub more : now ≡ before + 1
  pub fewer : (other : ℕ) → gives other → gave other × (other ≢ slot)
  pub still : (other : ℕ) → took other → takes other
  pub this : lasts ≡ true → takes slot

-- the pool is as before, but for the slots that wait
pub record Kept (before now : ℕ) (was is : Bool) (gave gives took takes : ℕ → Type 0) : Type 0 where
  pub count : now ≡ before
  pub spent : is ≡ was
  pub fewer : (other : ℕ) → gives other → gave other
  pub more : (other : ℕ) → gave other → gives other
  pub still : (other : ℕ) → took other → takes other
  pub less : (other : ℕ) → takes other → took other

-- a pool of this many slots, counted from 0, of which none is out and each can be given
pub record IsFull (count capacity taken : ℕ) (gives : ℕ → Type 0) : Type 0 where
  pub room : capacity ≡ count
  pub none : taken ≡ 0
  pub each : (slot : ℕ) → slot < count → gives slot
  pub only : (slot : ℕ) → gives slot → slot < count
