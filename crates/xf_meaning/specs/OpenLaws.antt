-- The words and values at the beginning.
use Rattle.std.specs.Prelude.{◌≡◌, ℕ, ◌+◌, ◌<◌, List, length}
use mathlib.Core.Option.{some}
use lib.ListN.{get_elem?}
use Rattle.xf_types.specs.Machine.{Machine}
use Rattle.xf_types.specs.IsMachine.{IsMachine}
use Rattle.xf_types.specs.Standing.{Standing}
use Rattle.xf_types.specs.Steps.{empty}
use Rattle.xf_cells.specs.Words.{zeros}
use Rattle.xf_invariant.specs.Meaning.{Told, told}
use Rattle.xf_ownpart.specs.OwnPart.{listed_at, standing_of}
use Rattle.xf_meaning.specs.Places.{size_of}
use Rattle.xf_meaning.specs.Good.{Good}
use Rattle.xf_meaning.specs.Tells.{lists}
use Rattle.xf_meaning.specs.Machines.{machine, first_ids}

-- the value of each slot stands for what the image lists there, with the own part that the machine has
pub record AreHome (p s : ℕ) (image : List ℕ) (m : Machine) (homes : List Standing) : Type 0 where
  pub count : length homes ≡ p + s
  pub each : (slot : ℕ) → slot < p + s → get_elem? homes slot ≡ some (standing_of (listed_at (lists p s) m image slot))

pub record OpenLaws : Type 0 where
  -- words that are all 0 stand for the empty machine, and no change of it was counted
  pub empty : (p s : ℕ) → Good p s (zeros (size_of p s)) (told (empty p s).shown first_ids)
  -- a machine that good words show, and whose own parts the values at home have, is the one that words and values tell
  pub machine : (p s : ℕ) (image : List ℕ) (t : Told) (m : Machine) (homes : List Standing) → Good p s image t → IsMachine m → t.shown ≡ m.shown
      → AreHome p s image m homes → machine p s image homes ≡ m
