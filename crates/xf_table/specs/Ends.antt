-- What a table is made of, and what it leaves.
use Rattle.std.specs.Prelude.{◌≡◌, ℕ, ◌-◌, ◌<◌, false, List, [], length, map, Option, AllPairs}
use mathlib.Core.Option.{some}
use lib.ListN.{get_elem?}
use Rattle.xf_types.specs.declared.call.Receipt.{Receipt}
use Rattle.xf_types.specs.declared.state.Sa.{Sa}
use Rattle.xf_types.specs.Machine.{Machine}
use Rattle.xf_types.specs.Moves.{moves_of}
use Rattle.xf_types.specs.History.{IsLegalHistory, machine_of, joined}
use Rattle.xf_types.specs.Standing.{Standing}
use Rattle.xf_views.specs.declared.view.View.{View}
use Rattle.xf_views.specs.declared.view.Start.{Start}
use Rattle.xf_views.specs.Starts.{first_view}
use Rattle.xf_invariant.specs.Meaning.{Told, told_after_moves, Opens}
use Rattle.xf_ownpart.specs.OwnPart.{listed_at, standing_of}
use Rattle.xf_ownpart.specs.OwnLaws.{IsStart}
use Rattle.xf_seats.specs.Opened.{slots_of, start_machine}
use Rattle.xf_seats.specs.Ends.{AreParts, lists_of}
use Rattle.xf_table.specs.declared.table.Table.{Table}
use Rattle.atomic_table.specs.declared.shared.Seat.{Seat}
use Rattle.xf_table.specs.Rule.{good_at, lists_at}
use Rattle.xf_table.specs.Tables.{IsAt, first_of}

-- the start from what a table is made of: so many seats, the words, the values, and how many of these are of policies' slots
abbrev pub start_from : {X : Type 0} → (X → Standing) → ℕ → List ℕ → List X → ℕ → Start
start_from standing seats words values policies =
    record { seats = seats; policies = policies; states = length values - policies; words = words; homes = map standing values }

-- the seat is the first one of a table with this start, and did nothing yet
pub record IsFirst {T : Type 0} (standing : T → Standing) (start : Start) (t : Table T) (p : Seat (Option T) View) : Type 0 where
  pub at : IsAt standing t p
  pub start_is : first_of standing t ≡ start
  pub me : p.me ≡ (first_view start 0 1, [])

-- the seat took in all others, holds no slot's turn, and isn't open
pub record HasAll (v : View) : Type 0 where
  pub makes : 0 < v.life.next
  pub all : length (lists_of v) ≡ v.life.next
  pub shut : v.hand.writing ≡ false
  pub slotless : v.own.turns ≡ []

-- no two receipts have one number
abbrev pub AreApart : List Receipt → Type 0
AreApart rs = AllPairs (λ a b. a.number ≡ b.number → ⊥) rs

module _ (bucket_of : Sa → ℕ) (good : ℕ → ℕ → List ℕ → Told → Type 0) (lists : ℕ → ℕ → List ℕ → ℕ → Option (Sa × ℕ)) (machine : ℕ → ℕ → List ℕ → List Standing → Machine) where
  -- there is one legal history, whose parts the lists are. The words are good for what it leaves, and the value of each slot stands for what
  -- they list there
  pub record Ends {X : Type 0} (standing : X → Standing) (start : Start) (words : List ℕ) (values : List X) (parts : List (List Receipt)) : Type 0 where
    pub history : List Receipt
    pub legal : IsLegalHistory (start_machine machine start) history
    pub are_parts : AreParts history parts
    pub apart : AreApart (joined parts)
    pub sizes : (length words ≡ length start.words) × (length values ≡ slots_of start)
    pub stands : (t : Told) → Opens (good_at good start) start.words t → good_at good start words (told_after_moves bucket_of t (moves_of history))
    -- the words stand for the machine that it leaves
    pub leaves : IsStart bucket_of (good_at good start) (lists_at lists start) words (machine_of (start_machine machine start) history)
    pub values_stand : (slot : ℕ) → slot < slots_of start
        → (x : X) × (get_elem? values slot ≡ some x)
        × (standing x ≡ standing_of (listed_at (lists_at lists start) (machine_of (start_machine machine start) history) words slot))
