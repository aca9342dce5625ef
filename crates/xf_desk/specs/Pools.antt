-- The pools that the statuses of an image give.
use Rattle.std.specs.Prelude.{◌≡◌, ◌≢◌, ℕ, ◌+◌, ◌<◌, List, Option, Some, None, slice_index}
use Rattle.xf_cells.specs.declared.one_pool.OnePool.{OnePool}
use Rattle.xf_retired.specs.Pools.{listed_slots}

-- Of so many slots so many have the status of a listed one. The slot that is named, where one is, hasn't; else each has.
pub record IsScan (first count : ℕ) (image : List ℕ) (live : ℕ) (free : Option ℕ) : Type 0 where
  pub listed : live ≡ listed_slots image first count
  pub unlisted : (slot : ℕ) → free ≡ Some slot → (slot < count) × (slice_index image (first + slot) ≢ 1)
  pub all : free ≡ None → live ≡ count

-- As many slots are there, as many are out as have the status of a listed one, and none waits. One is to give that isn't listed, or each is.
pub record IsPoolOf (first count : ℕ) (image : List ℕ) (pool : OnePool) : Type 0 where
  pub capacity : pool.capacity ≡ count
  pub waiting : pool.waiting ≡ 0
  pub scan : IsScan first count image pool.live pool.slot

-- The same of a pool that has no slot to give: each that isn't listed waits.
pub record IsFullPool (first count : ℕ) (image : List ℕ) (pool : OnePool) : Type 0 where
  pub capacity : pool.capacity ≡ count
  pub live : pool.live ≡ listed_slots image first count
  pub none : pool.slot ≡ None
  pub sum : pool.live + pool.waiting ≡ count
