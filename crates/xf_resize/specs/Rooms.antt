-- How many heads there are for how many states.
use Rattle.std.specs.Prelude.{ℕ, ◌+◌, ◌-◌, ◌<◌, ◌≤◌, ◌==◌, ◌&&◌, nat_le, nat_lt, Bool, List}
use Rattle.xf_types.specs.declared.state.Sa.{Sa}
use Rattle.xf_chain.specs.Lists.{Apart, Within}
use Rattle.xf_index.specs.Indexes.{slots_in}
use Rattle.xf_sadidx.specs.declared.area.StateArea.{StateArea}
use Rattle.xf_sadidx.specs.Layout.{doubling_in}
use Rattle.xf_sadidx.specs.Standing.{StatesIndexed, RecordsStand}

-- how many heads the chains of a kind have
abbrev pub buckets_in : StateArea → List ℕ → ℕ
buckets_in a image = (doubling_in a image).half + (doubling_in a image).half

-- how many of the old heads aren't split yet
abbrev pub pending_in : StateArea → List ℕ → ℕ
pending_in a image = (doubling_in a image).half - (doubling_in a image).moved

-- one state more than so many is more than there are heads, of which no old one is left to be split
abbrev pub is_due : ℕ → ℕ → ℕ → Bool
is_due buckets pending count = nat_le buckets count && nat_lt buckets 4096 && (pending == 0)

-- There are as many heads as states, or 4,096; and as long as old heads are left, no more of them than heads that no state needs: one is split for
-- each state that comes, so none is left when the next doubling is due.
pub record Suffices (buckets pending count : ℕ) : Type 0 where
  pub heads : buckets < 4096 → count ≤ buckets
  pub left : 0 < pending → pending + count ≤ buckets

-- A doubling has begun where one state more is more than there are heads.
pub record Begun (buckets pending count : ℕ) : Type 0 where
  pub heads : buckets < 4096 → count + 1 ≤ buckets
  pub left : 0 < pending → pending + count ≤ buckets

-- The states stand in their slots and in their chains, no slot twice.
pub record StatesChained (a : StateArea) (image : List ℕ) (entries : List (ℕ × Sa)) : Type 0 where
  pub indexed : StatesIndexed a image entries
  pub records : RecordsStand a image entries
  pub apart : Apart (slots_in entries)
  pub within : Within a.slots (slots_in entries)
