-- In which slots states stand, before a call and after it.
use Rattle.std.specs.Prelude.{◌≡◌, ℕ, Bool, false, List, [], ◌∷◌, ◌++◌, Option, None, Some, if◌then◌else◌}
use Rattle.xf_types.specs.declared.state.Sa.{Sa}
use Rattle.xf_types.specs.PolicyList.{without}
use Rattle.xf_sadidx.specs.declared.area.StateArea.{StateArea}
use Rattle.xf_sadidx.specs.Layout.{record_at}
use Rattle.xf_sad.specs.Changes.{is_slot}
use Rattle.xf_sad.specs.Slots.{is_in, listed_in}

-- the record of the state that stands in a slot, where one does
unfoldable pub state_in : StateArea → List ℕ → ℕ → Option Sa
state_in a image slot = if is_in slot (listed_in a image) then record_at a image slot else None

-- A slot whose turn isn't held lists what it did, and a state that stays listed keeps its slot.
pub record KeepsPlaces (a : StateArea) (held : ℕ → Bool) (before now : List ℕ) : Type 0 where
  pub others : (slot : ℕ) → held slot ≡ false → state_in a now slot ≡ state_in a before slot
  pub stays : (p q : ℕ) (x y : Sa) → state_in a before p ≡ Some x → state_in a now q ≡ Some y → x.sid ≡ y.sid → p ≡ q

-- the slots but for the one that is named, where one is
abbrev pub slots_but : Option ℕ → List ℕ → List ℕ
slots_but gone slots = without (λ slot. is_slot gone slot) slots

-- A slot that could be given stands last in the list now, and the one that is named left, where one is.
pub record SlotCame (gave : ℕ → Type 0) (gone : Option ℕ) (before now : List ℕ) : Type 0 where
  pub slot : ℕ
  pub given : gave slot
  pub list : now ≡ slots_but gone before ++ (slot ∷ [])
