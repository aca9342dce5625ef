-- Words and slots for states.
use Rattle.std.specs.Prelude.{◌≡◌, ℕ}
use Rattle.xf_sadidx.specs.declared.area.StateArea.{StateArea}
use Rattle.xf_sadidx.specs.Layout.{Fits}

-- the words lie in so many, and there are as many slots in the pool as in the area
pub record HasRoom (a : StateArea) (size slots : ℕ) : Type 0 where
  pub fits : Fits a size
  pub room : slots ≡ a.slots
