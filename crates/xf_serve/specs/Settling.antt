-- How a call ends that has its reply: a number is drawn, a change is finished, and the turn is given back.
use Rattle.std.specs.Prelude.{◌≡◌, ℕ}
use Rattle.xf_views.specs.declared.entry.Entry.{Entry}
use Rattle.xf_views.specs.Views.{view_after_finish, view_after_leave}
use Rattle.xf_meaning.specs.Good.{Good}
use Rattle.xf_meaning.specs.Tells.{lists}
use Rattle.xf_values.specs.declared.state_value.StateValue.{StateValue}
use Rattle.xf_table.specs.Plays.{Moved, Stayed}
use Rattle.xf_live.specs.Passes.{PassView, IsKept, knowing, me_of}

-- a move was drawn
pub record SettledMove (e : Entry) (p q : PassView StateValue) : Type 0 where
  pub number : ℕ
  pub drawn : PassView StateValue
  pub kept : IsKept p drawn
  pub row : Moved Good lists e number (me_of p) (me_of drawn)
  pub left : q ≡ knowing drawn (view_after_leave (view_after_finish drawn.view))

-- another receipt was drawn
pub record SettledStill (e : Entry) (p q : PassView StateValue) : Type 0 where
  pub number : ℕ
  pub drawn : PassView StateValue
  pub kept : IsKept p drawn
  pub row : Stayed Good lists e number (me_of p) (me_of drawn)
  pub left : q ≡ knowing drawn (view_after_leave drawn.view)
