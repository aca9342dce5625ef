-- What a lookup found.
use Rattle.std.specs.Prelude.{◌≡◌, ℕ, Bool, List, ◌∷◌, ◌++◌, Option}
use Rattle.xf_types.specs.declared.state.Sa.{Sa}
use Rattle.xf_types.specs.IsMachine.{IsStateList}
use Rattle.xf_types.specs.Machine.{Shown}
use Rattle.xf_index.specs.Finds.{found_in, slot_found}
use Rattle.xf_sadidx.specs.declared.area.StateArea.{StateArea}
use Rattle.xf_sadidx.specs.Founds.{latest_in}
use Rattle.xf_sadimage.specs.States.{StatesStand}

-- Whatever states the words stand for, this is the slot of the last one that passes the test, where one does.
pub record IsLatest (a : StateArea) (image : List ℕ) (test : Sa → Bool) (slot : Option ℕ) : Type 0 where
  pub is : (s : Shown) (entries : List (ℕ × Sa)) → StatesStand a image s entries → slot ≡ slot_found (latest_in test entries)

-- It is the slot of the first one that does.
pub record IsFirst (a : StateArea) (image : List ℕ) (test : Sa → Bool) (slot : Option ℕ) : Type 0 where
  pub is : (s : Shown) (entries : List (ℕ × Sa)) → IsStateList s → StatesStand a image s entries → slot ≡ slot_found (found_in test entries)

-- A state is listed in the slot.
pub record HasState (a : StateArea) (image : List ℕ) (slot : ℕ) : Type 0 where
  pub shown : Shown
  pub front : List (ℕ × Sa)
  pub back : List (ℕ × Sa)
  pub state : Sa
  pub stands : StatesStand a image shown (front ++ ((slot, state) ∷ back))
