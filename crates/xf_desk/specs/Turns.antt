-- The values of the slots whose turns a pass has, and what these turns keep.
use Rattle.std.specs.Prelude.{◌≡◌, ◌≢◌, ℕ, true, List, Option, Some, None}
use Rattle.xf_local.specs.View.{standing_of as value_standing}
use Rattle.xf_views.specs.declared.view.SlotTurn.{SlotTurn}
use Rattle.xf_invariant.specs.PinPart.{Has}
use Rattle.xf_ownpart.specs.OwnPart.{standing_of}
use Rattle.xf_values.specs.declared.state_value.StateValue.{StateValue}
use Rattle.xf_live.specs.Passes.{PassView}
use Rattle.xf_live.specs.Values.{holds, home_at}
use Rattle.xf_desk.specs.Lending.{AllHome}

-- one of these turns is that of the slot, and the value that is at home there stands for what it keeps
pub record StandsFor (turns : List SlotTurn) (carried : List (ℕ × Option StateValue)) (slot : ℕ) : Type 0 where
  pub turn : SlotTurn
  pub value : StateValue
  pub held : Has turns turn
  pub slot_is : turn.slot ≡ slot
  pub home : home_at carried slot ≡ Some (Some value)
  pub stands : value_standing value.local ≡ standing_of turn.listed

-- no value is out, and each stands for what its slot's turn keeps
pub record AllStand (p : PassView StateValue) : Type 0 where
  pub home : AllHome p.values
  pub each : (slot : ℕ) → home_at p.values slot ≢ None → StandsFor p.view.own.turns p.values slot

-- The pass has this slot's turn now, and those that it had. Nothing else of it changed.
pub record HoldsToo (p q : PassView StateValue) (slot : ℕ) : Type 0 where
  pub held : holds q.values slot ≡ true
  pub still : (other : ℕ) → holds p.values other ≡ true → holds q.values other ≡ true
  pub rest : q ≡ record p { view = q.view; values = q.values }
  pub view : q.view ≡ record p.view { hand = record p.view.hand { just_began = q.view.hand.just_began; slots = q.view.hand.slots }; own = q.view.own }
