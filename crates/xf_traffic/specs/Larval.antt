-- A larval state that was listed for an acquire.
use Rattle.std.specs.Prelude.{◌≡◌, ℕ, List, Some}
use Rattle.xf_types.specs.declared.state.Sa.{Sa}
use Rattle.xf_sadidx.specs.declared.area.StateArea.{StateArea}
use Rattle.xf_sadidx.specs.Layout.{record_at}

-- In the slot stands a state without a window, which accepted no number.
pub record HasLarval (a : StateArea) (image : List ℕ) (slot : ℕ) : Type 0 where
  pub state : Sa
  pub there : record_at a image slot ≡ Some state
  pub window : state.spec.window ≡ 0
  pub start : state.spec.in_seq ≡ 0
