-- What the words of slots tell.
use Rattle.std.specs.Prelude.{◌≡◌, ℕ, ◌-◌, ◌==◌, ⊤, Bool, if◌then◌else◌, List, [], ◌∷◌, Option, None, Some}
use Rattle.xf_types.specs.declared.state.Sa.{Sa}
use Rattle.xf_asked.specs.Fields.{sid_at}
use Rattle.xf_sadidx.specs.declared.area.StateArea.{StateArea}
use Rattle.xf_sadidx.specs.Layout.{record_place, record_at}

-- a slot's words have a state id
abbrev pub has_sid_in : StateArea → List ℕ → ℕ → ℕ → Bool
has_sid_in a image sid slot = sid_at image (record_place a slot) == sid

-- the state id in a slot, where one is named
abbrev pub sid_in : StateArea → List ℕ → Option ℕ → Option ℕ
sid_in a image None = None
sid_in a image (Some slot) = Some (sid_at image (record_place a slot))

-- the slot at a place of a list, from 0
abbrev pub nth_slot : ℕ → List ℕ → Option ℕ
nth_slot place [] = None
nth_slot place (slot ∷ slots) = if place == 0 then Some slot else nth_slot (place - 1) slots

-- in the slot that is named stands that state; where none is named there is none
abbrev pub IsThere : StateArea → List ℕ → Option ℕ → Option Sa → Type 0
IsThere a image None None = ⊤
IsThere a image None (Some s) = ⊥
IsThere a image (Some slot) None = ⊥
IsThere a image (Some slot) (Some s) = record_at a image slot ≡ Some s
