-- What changes of words make of what they stand for.
use Rattle.std.specs.Prelude.{◌≡◌, ℕ, ◌<◌, ◌≤◌, List, [], ◌∷◌, ◌++◌, length, slice_index}
use Rattle.xf_types.specs.declared.state.Sa.{Sa}
use Rattle.xf_types.specs.Machine.{Shown}
use Rattle.xf_types.specs.Steps.{empty_shown}
use Rattle.xf_cells.specs.Words.{zeros}
use Rattle.xf_chain.specs.Lists.{Misses, Apart}
use Rattle.xf_index.specs.Indexes.{slots_in}
use Rattle.xf_sadidx.specs.declared.area.StateArea.{StateArea}
use Rattle.xf_sadidx.specs.Layout.{Fits, end_of}
use Rattle.xf_sadimage.specs.States.{StatesLinked, StatesStand, AlikeInStates}
use Rattle.xf_sadimage.specs.Writes.{last_in, before_in, after_in, linked, cut_out}

pub record StateLaws : Type 0 where
  -- zeros stand for no states
  pub empty : (a : StateArea) (n max_policies : ℕ) → StatesStand a (zeros n) (empty_shown max_policies a.slots) []
  -- words of others don't matter
  pub apart : (a : StateArea) (image words : List ℕ) (s : Shown) (entries : List (ℕ × Sa)) → Fits a (length image)
      → ((q : ℕ) → a.base ≤ q → q < end_of a → slice_index words q ≡ slice_index image q)
      → StatesStand a image s entries → StatesStand a words s entries
  -- and neither does what else is shown
  pub alike : (a : StateArea) (image : List ℕ) (s t : Shown) (entries : List (ℕ × Sa)) → AlikeInStates s t
      → StatesStand a image s entries → StatesStand a image t entries
  -- a state that comes last goes behind the last slot
  pub comes : (a : StateArea) (image : List ℕ) (entries : List (ℕ × Sa)) (slot : ℕ) (s : Sa)
      → Fits a (length image) → slot < a.slots → Misses slot (slots_in entries) → Apart (slots_in entries)
      → StatesLinked a image entries → StatesLinked a (linked a image (last_in a image) slot) (entries ++ ((slot, s) ∷ []))
  -- one that leaves has its neighbours a load away
  pub leaves : (a : StateArea) (image : List ℕ) (front back : List (ℕ × Sa)) (slot : ℕ) (s : Sa)
      → Fits a (length image) → Apart (slots_in (front ++ ((slot, s) ∷ back)))
      → StatesLinked a image (front ++ ((slot, s) ∷ back))
      → StatesLinked a (cut_out a image (before_in a image slot) (after_in a image slot) slot) (front ++ back)
