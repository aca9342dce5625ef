-- When words stand for the state list of a machine.
use Rattle.std.specs.Prelude.{◌≡◌, ℕ, ◌+◌, List, length, reverse, Option, Some, slice_index}
use Rattle.xf_types.specs.declared.state.Sa.{Sa}
use Rattle.xf_types.specs.Machine.{Shown}
use Rattle.xf_index.specs.Indexes.{Indexed, records_in}
use Rattle.xf_sadidx.specs.declared.area.StateArea.{StateArea}
use Rattle.xf_sadidx.specs.Layout.{next_seq_place, next_sid_place, count_place, order_of, back_of}
use Rattle.xf_resize.specs.Rooms.{buckets_in, pending_in, Suffices, StatesChained}

-- all states stand in one chain
abbrev pub everyone : Sa → Option ℕ
everyone s = Some 0

-- One chain passes the slots of all states, in the order of adding, and one passes them from the last to the first, each once.
pub record StatesLinked (a : StateArea) (image : List ℕ) (entries : List (ℕ × Sa)) : Type 0 where
  pub order : Indexed (order_of a) image everyone entries
  pub back : Indexed (back_of a) image everyone (reverse entries)

-- The header has the counters less their first values, and how many states are listed.
pub record CountersStand (a : StateArea) (image : List ℕ) (s : Shown) : Type 0 where
  pub next_seq : slice_index image (next_seq_place a) + 1 ≡ s.next_seq
  pub next_sid : slice_index image (next_sid_place a) + 1 ≡ s.next_sid
  pub count : slice_index image (count_place a) ≡ length s.states

-- The words stand for the states and the counters of what a machine shows, with these states in these slots: in each slot its state, in the chains
-- of all and in those of its hashes, whose heads suffice.
pub record StatesStand (a : StateArea) (image : List ℕ) (s : Shown) (entries : List (ℕ × Sa)) : Type 0 where
  pub listed : records_in entries ≡ s.states
  pub linked : StatesLinked a image entries
  pub chained : StatesChained a image entries
  pub heads : Suffices (buckets_in a image) (pending_in a image) (length entries)
  pub counters : CountersStand a image s
  pub room : s.max_states ≡ a.slots

-- The words stand for them in some slots.
pub record RepresentsStates (a : StateArea) (image : List ℕ) (s : Shown) : Type 0 where
  pub entries : List (ℕ × Sa)
  pub stands : StatesStand a image s entries

-- two machines show the same of what the states' words stand for
pub record AlikeInStates (s t : Shown) : Type 0 where
  pub states : t.states ≡ s.states
  pub next_seq : t.next_seq ≡ s.next_seq
  pub next_sid : t.next_sid ≡ s.next_sid
  pub room : t.max_states ≡ s.max_states
