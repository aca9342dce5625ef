-- The start of a table: its words and values stand for a machine.
use Rattle.std.specs.Prelude.{◌≡◌, ℕ, ◌+◌, ◌<◌, ◌≤◌, List, length, Option, slice_index}
use mathlib.Core.Option.{some}
use lib.ListN.{get_elem?}
use Rattle.xf_types.specs.declared.state.Sa.{Sa}
use Rattle.xf_types.specs.Machine.{Machine}
use Rattle.xf_types.specs.Standing.{Standing}
use Rattle.xf_views.specs.declared.view.Start.{Start}
use Rattle.xf_invariant.specs.Meaning.{Told}
use Rattle.xf_ownpart.specs.OwnLaws.{IsStart}
use Rattle.xf_ownpart.specs.OwnPart.{listed_at, standing_of}

-- how many slots there are, of policies and of states
abbrev pub slots_of : Start → ℕ
slots_of start = start.policies + start.states

-- the machine of the start
abbrev pub start_machine : (ℕ → ℕ → List ℕ → List Standing → Machine) → Start → Machine
start_machine machine start = machine start.policies start.states start.words start.homes

module _ (bucket_of : Sa → ℕ) (good : ℕ → ℕ → List ℕ → Told → Type 0) (lists : ℕ → ℕ → List ℕ → ℕ → Option (Sa × ℕ)) (machine : ℕ → ℕ → List ℕ → List Standing → Machine) where
  -- the words stand for the machine of the start, and the value of each slot for what they list there, with its own part. The statuses of
  -- slots come first and are 0 or 1
  pub record Opened (start : Start) : Type 0 where
    pub some_seat : 1 ≤ start.seats
    pub few_seats : start.seats ≤ 16
    pub stands : IsStart bucket_of (good start.policies start.states) (lists start.policies start.states) start.words (start_machine machine start)
    pub values : (slot : ℕ) → slot < slots_of start
        → get_elem? start.homes slot ≡ some (standing_of (listed_at (lists start.policies start.states) (start_machine machine start) start.words slot))
    pub count : length start.homes ≡ slots_of start
    pub words : slots_of start ≤ length start.words
    pub statuses : (slot : ℕ) → slot < slots_of start → slice_index start.words slot ≤ 1
