-- What held turns keep, and what steps make of it.
use Rattle.std.specs.Prelude.{◌≡◌, ℕ, false, if◌then◌else◌, List, Option, Some, None, filter}
use Rattle.std.specs.Option.{option_map}
use Rattle.xf_types.specs.declared.call.Call.{Call}
use Rattle.xf_types.specs.declared.state.Sa.{Sa}
use Rattle.xf_types.specs.Machine.{Own}
use Rattle.xf_types.specs.StateList.{has_sid}
use Rattle.xf_types.specs.OwnParts.{new_own}
use Rattle.xf_late.specs.Rests.{own_touched}
use Rattle.xf_views.specs.declared.entry.Listed.{Listed}
use Rattle.xf_views.specs.declared.view.SlotTurn.{SlotTurn}
use Rattle.xf_invariant.specs.PinPart.{Has}
use Rattle.xf_ownpart.specs.OwnPart.{listing}

-- the turn of the slot is held
abbrev pub IsHeld : List SlotTurn → ℕ → Type 0
IsHeld turns slot = (e : SlotTurn) × Has turns e × (e.slot ≡ slot)

-- one of the turns keeps this state
pub record Keeps (turns : List SlotTurn) (l : Listed) : Type 0 where
  pub turn : SlotTurn
  pub held : Has turns turn
  pub is : turn.listed ≡ Some l

-- the turns under which the pending trial was drawn
abbrev pub tried_of : List SlotTurn → List SlotTurn
tried_of turns = filter (λ e. e.tried) turns

-- where a receipt rests on a state's own part, one of the turns keeps the state
abbrev pub IsCovered : List SlotTurn → Option ℕ → Type 0
IsCovered turns one = (sid : ℕ) → one ≡ Some sid → (l : Listed) × Keeps turns l × (l.state.sid ≡ sid)

-- what is kept after a receipt that doesn't move, with this call, rests on this state, or on none
abbrev pub touched : Option ℕ → Call → Listed → Listed
touched one c l = listing l.state l.time (own_touched one c l.time l.state l.own)

abbrev pub touched_turn : Option ℕ → Call → SlotTurn → SlotTurn
touched_turn one c e = record e { listed = option_map (touched one c) e.listed }

-- the own part of a state that a slot lists after a move, by what was kept there: what the receipt makes of it where it is the same state, and what a
-- new state begins with else
abbrev pub own_moved : Option ℕ → Call → Option Listed → Sa → Own
own_moved one c None x = new_own x.spec
own_moved one c (Some l) x = if has_sid x.sid l.state then own_touched one c l.time l.state l.own else new_own x.spec

module _ (lists : List ℕ → ℕ → Option (Sa × ℕ)) where
  -- what is kept after a move: what the new image lists at the slot
  abbrev pub moved_turn : List ℕ → Option ℕ → Call → SlotTurn → SlotTurn
  moved_turn image one c e =
      record e {
        still = false;
        listed = option_map (λ (x : Sa × ℕ). listing x.0 x.1 (own_moved one c e.listed x.0)) (lists image e.slot);
      }

  -- what a move leaves of the slots: one whose turn isn't held lists what it did, the record and the time, so a move that sets the time
  -- has the turns of all listed slots; and a state that stays listed keeps its slot
  pub record KeepsSlots (turns : List SlotTurn) (old new : List ℕ) : Type 0 where
    pub others : (slot : ℕ) → (IsHeld turns slot → ⊥) → lists new slot ≡ lists old slot
    pub stays : (j k : ℕ) (x y : Sa × ℕ) → lists old j ≡ Some x → lists new k ≡ Some y → x.0.sid ≡ y.0.sid → j ≡ k
