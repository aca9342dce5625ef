-- What statuses make of words and of pools.
use Rattle.std.specs.Prelude.{◌≡◌, ℕ, ◌<◌, Bool, List, length, Option, Some}
use Rattle.xf_types.specs.declared.call.Call.{Call}
use Rattle.xf_types.specs.declared.call.Reply.{Reply}
use Rattle.xf_types.specs.Machine.{Machine}
use Rattle.xf_cells.specs.declared.one_pool.OnePool.{OnePool}
use Rattle.xf_spd.specs.Slots.{PoolFits as PoliciesFit}
use Rattle.xf_sad.specs.Slots.{PoolFits as StatesFit}
use Rattle.xf_image.specs.Readings.{listed_in}
use Rattle.xf_rows.specs.Layouts.{Fits}
use Rattle.xf_rows.specs.Readings.{state_slots}
use Rattle.xf_rows.specs.Stands.{Stands}
use Rattle.xf_rows.specs.Values.{Beside}
use Rattle.xf_invariant.specs.Meaning.{Told}
use Rattle.xf_meaning.specs.Beside.{MarksStand}
use Rattle.xf_meaning.specs.Calls.{AnswersAll}
use Rattle.xf_meaning.specs.Good.{Good}
use Rattle.xf_meaning.specs.Places.{layout_of, policies_of, states_of}
use Rattle.xf_desk.specs.Marks.{AreMoved, KeepsRecords, moved_slots}
use Rattle.xf_desk.specs.Pools.{IsPoolOf, IsFullPool}

-- what a pool of one slot can give, and takes back
abbrev pub gives : OnePool → ℕ → Type 0
gives pool slot = pool.slot ≡ Some slot

abbrev pub takes : OnePool → ℕ → Type 0
takes pool slot = 0 < pool.live

pub record MarkLaws : Type 0 where
  -- what a call answers and leaves is the same after other statuses and ids were stored
  pub answers : (p s : ℕ) (old mid new : List ℕ) (b c : Beside) (call : Call) (reply : Reply) → Fits (layout_of p s) (length mid) → KeepsRecords p s mid new
      → AnswersAll p s old b mid c call reply → AnswersAll p s old b new c call reply
  -- the statuses are right where they moved as the lists did
  pub marks : (p s : ℕ) (old mid new : List ℕ) (t : Told) (c : Beside) (m : Machine) (gone_policies gone_states : ℕ → Bool) (policy state : Option ℕ)
      → Fits (layout_of p s) (length mid) → Good p s old t → Stands (layout_of p s) mid c m → KeepsRecords p s mid new
      → listed_in (policies_of p s) mid ≡ moved_slots gone_policies policy (listed_in (policies_of p s) old)
      → state_slots (states_of p s) mid ≡ moved_slots gone_states state (state_slots (states_of p s) old)
      → AreMoved 0 p old new gone_policies policy → AreMoved p s old new gone_states state
      → MarksStand p s new
  -- the pools that the statuses of good words give fit the lists
  pub policy_pool : (p s : ℕ) (image : List ℕ) (t : Told) (pool : OnePool) → Good p s image t → IsPoolOf 0 p image pool
      → PoliciesFit pool.capacity pool.live (gives pool) (takes pool) p (listed_in (policies_of p s) image)
  pub state_pool : (p s : ℕ) (image : List ℕ) (t : Told) (pool : OnePool) → Good p s image t → IsPoolOf p s image pool
      → StatesFit pool.capacity pool.live (gives pool) (takes pool) s (state_slots (states_of p s) image)
  pub full_policies : (p s : ℕ) (image : List ℕ) (t : Told) (pool : OnePool) → Good p s image t → IsFullPool 0 p image pool
      → PoliciesFit pool.capacity pool.live (gives pool) (takes pool) p (listed_in (policies_of p s) image)
  pub full_states : (p s : ℕ) (image : List ℕ) (t : Told) (pool : OnePool) → Good p s image t → IsFullPool p s image pool
      → StatesFit pool.capacity pool.live (gives pool) (takes pool) s (state_slots (states_of p s) image)
