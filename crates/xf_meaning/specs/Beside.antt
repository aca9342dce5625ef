-- Values beside the words: those of the states' slots, of which a table keeps one for each slot behind those of the policies.
use Rattle.std.specs.Prelude.{◌≡◌, ℕ, ◌+◌, ◌<◌, true, List, length}
use Rattle.xf_types.specs.Machine.{Machine}
use Rattle.xf_ownpart.specs.OwnPart.{listed_at, standing_of}
use Rattle.xf_image.specs.Readings.{listed_in}
use Rattle.xf_local.specs.View.{standing_of as value_standing}
use Rattle.xf_rows.specs.Values.{Beside, at}
use Rattle.xf_rows.specs.Readings.{state_slots}
use Rattle.xf_meaning.specs.Places.{policies_of, states_of}
use Rattle.xf_meaning.specs.Marks.{AreMarked}
use Rattle.xf_meaning.specs.Tells.{lists}

-- there is a value for each slot of a state, and where the slot's turn is held it stands for what the image lists there, with the own part that the
-- machine has
pub record AreBeside (p s : ℕ) (image : List ℕ) (m : Machine) (b : Beside) : Type 0 where
  pub count : length b.values ≡ s
  pub held : (slot : ℕ) → slot < s → b.held slot ≡ true → value_standing (at b slot) ≡ standing_of (listed_at (lists p s) m image (p + slot))

-- of both lists just the slots are marked as listed that the chains of all pass
pub record MarksStand (p s : ℕ) (image : List ℕ) : Type 0 where
  pub policies : AreMarked 0 p image (listed_in (policies_of p s) image)
  pub states : AreMarked p s image (state_slots (states_of p s) image)
