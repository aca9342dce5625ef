-- The window and the value that a new state begins with.
use Rattle.std.specs.Prelude.{◌≡◌, ℕ, List, Some}
use Rattle.xf_types.specs.declared.state.Sa.{Sa}
use Rattle.xf_types.specs.declared.state.SaSpec.{SaSpec}
use Rattle.xf_types.specs.OwnParts.{new_own}
use Rattle.xf_types.specs.Replay.{accepted_to}
use Rattle.xf_sadidx.specs.declared.area.StateArea.{StateArea}
use Rattle.xf_sadidx.specs.Layout.{record_at}
use Rattle.xf_local.specs.View.{LocalView, Live}
use Rattle.xf_replay.specs.Window.{WindowView}

-- The window has the size and has accepted the numbers that a request gives.
pub record IsWindowOf (w : WindowView) (spec : SaSpec) : Type 0 where
  pub size : w.size ≡ spec.window
  pub numbers : w.accepted ≡ accepted_to spec.window spec.in_seq

-- the value of a state that was added now
abbrev pub value_of_new : Sa → LocalView
value_of_new s = Live (record { state = s; own = new_own s.spec; time = s.added })

-- The slot has the record of a state without a window.
pub record IsLarvalAt (a : StateArea) (image : List ℕ) (slot : ℕ) : Type 0 where
  pub state : Sa
  pub record_is : record_at a image slot ≡ Some state
  pub window : state.spec.window ≡ 0
  pub start : state.spec.in_seq ≡ 0
