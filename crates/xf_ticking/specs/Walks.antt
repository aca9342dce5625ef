-- How far a walk over the states has come.
use Rattle.std.specs.Prelude.{◌≡◌, ℕ, ◌≤◌, true, List, All, ◌∷◌, ◌++◌, Option, length}
use Rattle.xf_types.specs.declared.call.Event.{Event}
use Rattle.xf_types.specs.declared.state.Sa.{Sa}
use Rattle.xf_types.specs.Machine.{Shown}
use Rattle.xf_chain.specs.Lists.{first_of}
use Rattle.xf_index.specs.Indexes.{slots_in, records_in}
use Rattle.xf_sadidx.specs.declared.area.StateArea.{StateArea}
use Rattle.xf_sadimage.specs.States.{StatesStand}
use Rattle.xf_sadlist.specs.Listed.{with_states}
use Rattle.xf_rows.specs.Values.{Beside}
use Rattle.xf_ticking.specs.Dues.{entries_left}
use Rattle.xf_ticking.specs.Told.{told}

-- The words stand for some list of states.
pub record StatesStood (a : StateArea) (words : List ℕ) : Type 0 where
  pub shown : Shown
  pub entries : List (ℕ × Sa)
  pub stands : StatesStand a words shown entries

-- A state is listed in the slot.
pub record HasState (a : StateArea) (words : List ℕ) (slot : ℕ) : Type 0 where
  pub shown : Shown
  pub front : List (ℕ × Sa)
  pub back : List (ℕ × Sa)
  pub state : Sa
  pub stands : StatesStand a words shown (front ++ ((slot, state) ∷ back))

-- A walk that asks the values heard those in front, and comes to those behind, so many at most, whose turns are held. This holds of what it heard.
pub record Telling (now : ℕ) (b : Beside) (entries : List (ℕ × Sa)) (at : Option ℕ) (left : ℕ) (Holds : List Event → Type 0) : Type 0 where
  pub front : List (ℕ × Sa)
  pub back : List (ℕ × Sa)
  pub whole : entries ≡ front ++ back
  pub at_is : at ≡ first_of (slots_in back)
  pub left_is : length back ≤ left
  pub turns : All (λ slot. b.held slot ≡ true) (slots_in back)
  pub holds : Holds (told now b (slots_in front))

-- the words stand for the entries that are left at a later time
abbrev pub StandsLeft : StateArea → List ℕ → ℕ → Beside → Shown → List (ℕ × Sa) → Type 0
StandsLeft a words now b s entries = StatesStand a words (with_states s (records_in (entries_left now b entries))) (entries_left now b entries)

-- A walk that changes the list passed those in front, and comes to those behind, so many at most, whose turns are held. The values stay as they were.
pub record Aging (a : StateArea) (words : List ℕ) (now : ℕ) (b : Beside) (s : Shown) (entries : List (ℕ × Sa)) (at : Option ℕ) (left : ℕ) : Type 0 where
  pub front : List (ℕ × Sa)
  pub back : List (ℕ × Sa)
  pub at_is : at ≡ first_of (slots_in back)
  pub left_is : length back ≤ left
  pub turns : All (λ slot. b.held slot ≡ true) (slots_in back)
  pub stands : StatesStand a words (with_states s (records_in (front ++ back))) (front ++ back)
  pub left_are : front ++ entries_left now b back ≡ entries_left now b entries
