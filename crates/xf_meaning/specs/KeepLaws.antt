-- From the slots of states in words to the slots that the table's turns keep.
use Rattle.std.specs.Prelude.{◌≡◌, ℕ, ◌+◌, ◌<◌, ◌⊎◌, Bool, false, List, None, slice_index}
use Rattle.std.specs.Option.{option_map}
use Rattle.xf_types.specs.declared.state.Sa.{Sa}
use Rattle.xf_sad.specs.Places.{state_in, KeepsPlaces}
use Rattle.xf_rows.specs.Values.{Beside}
use Rattle.xf_views.specs.declared.view.SlotTurn.{SlotTurn}
use Rattle.xf_ownpart.specs.Turns.{KeepsSlots}
use Rattle.xf_meaning.specs.Places.{states_of, layout_of}
use Rattle.xf_meaning.specs.Tells.{lists}
use Rattle.xf_meaning.specs.Beside.{MarksStand}
use Rattle.xf_meaning.specs.Calls.{AreKept}

-- the time is the same, or the turn of each slot is held in which a state stands
abbrev pub MayAge : ℕ → ℕ → (ℕ → Bool) → List ℕ → List ℕ → Type 0
MayAge p s held old new =
    (slice_index new (layout_of p s).clock ≡ slice_index old (layout_of p s).clock)
    ⊎ ((slot : ℕ) → slot < s → held slot ≡ false → state_in (states_of p s) old slot ≡ None)

pub record KeepLaws : Type 0 where
  -- where the statuses are right, a slot lists the state that stands there
  pub listed : (p s : ℕ) (image : List ℕ) (slot : ℕ) → MarksStand p s image → slot < s
      → lists p s image (p + slot) ≡ option_map (λ (x : Sa). (x, slice_index image (layout_of p s).clock)) (state_in (states_of p s) image slot)
  -- so words that keep the places of states keep what slots list whose turns aren't held
  pub keeps : (p s : ℕ) (old new : List ℕ) (turns : List SlotTurn) (b : Beside) → MarksStand p s old → MarksStand p s new → AreKept p s turns b
      → KeepsPlaces (states_of p s) b.held old new → MayAge p s b.held old new → KeepsSlots (lists p s) turns old new
