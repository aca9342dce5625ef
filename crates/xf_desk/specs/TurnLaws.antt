-- From a pass with slots' turns to what a call over words and values asks, and back.
use Rattle.std.specs.Prelude.{◌≡◌, ℕ, ◌+◌, ◌<◌, true, List, [], Option}
use Rattle.xf_types.specs.ChangeIds.{ChangeIds}
use Rattle.xf_types.specs.Machine.{Machine}
use Rattle.xf_types.specs.Standing.{Standing}
use Rattle.xf_local.specs.View.{standing_of as value_standing}
use Rattle.xf_views.specs.declared.view.SlotTurn.{SlotTurn}
use Rattle.xf_views.specs.declared.view.Start.{Start}
use Rattle.xf_table.specs.Plays.{StandsWith}
use Rattle.xf_values.specs.declared.state_value.StateValue.{StateValue}
use Rattle.xf_live.specs.Passes.{PassView}
use Rattle.xf_live.specs.Calls.{Took}
use Rattle.xf_live.specs.Values.{holds}
use Rattle.xf_meaning.specs.Calls.{AreKept, IsKnown}
use Rattle.xf_meaning.specs.Good.{Good}
use Rattle.xf_meaning.specs.Tells.{lists}
use Rattle.xf_desk.specs.Lending.{AllHome}
use Rattle.xf_desk.specs.Turns.{StandsFor, AllStand}
use Rattle.xf_desk.specs.Values.{beside_of}

-- what the value of a slot stands for
abbrev pub stands_for : StateValue → Standing
stands_for v = value_standing v.local

pub record TurnLaws : Type 0 where
  -- a pass with no slot's turn, and one that takes one more
  pub none : (p : PassView StateValue) → p.values ≡ [] → AllStand p
  pub take : (p q : PassView StateValue) (slot : ℕ) → Took Good lists stands_for p slot q → AllStand p → AllStand q
  -- its values are kept, as calls over words and values ask
  pub kept : (start : Start) (p : PassView StateValue) → AllStand p → AreKept start.policies start.states p.view.own.turns (beside_of start p.values)
  -- an image that stands with turns is known
  pub known : (start : Start) (image : List ℕ) (turns : List SlotTurn) → StandsWith Good lists start image turns
      → (m : Machine) × (ids : ChangeIds) × IsKnown start.policies start.states image turns m ids
  -- kept values stand at home for what their turns keep
  pub home : (start : Start) (turns : List SlotTurn) (carried : List (ℕ × Option StateValue)) (slot : ℕ) → AreKept start.policies start.states turns (beside_of start carried)
      → AllHome carried → slot < start.states → holds carried (start.policies + slot) ≡ true → StandsFor turns carried (start.policies + slot)
