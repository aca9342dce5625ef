-- From an answer of the state in one slot to the run that it ends.
use Rattle.std.specs.Prelude.{◌≡◌, ℕ, false}
use Rattle.xf_types.specs.History.{is_contended}
use Rattle.xf_types.specs.Moves.{is_moving}
use Rattle.xf_views.specs.declared.entry.Entry.{Entry}
use Rattle.xf_views.specs.declared.view.Start.{Start}
use Rattle.xf_values.specs.declared.state_value.StateValue.{StateValue}
use Rattle.xf_table.specs.Rows.{MayStay}
use Rattle.xf_live.specs.Passes.{PassView}
use Rattle.xf_serve.specs.Served.{HasSpare}
use Rattle.xf_move.specs.OnSlot.{IsAnsweredOn, IsOnSlot, SettledOn}
use Rattle.xf_move.specs.Handled.{Handled, RepliesOne}

pub record HandleLaws : Type 0 where
  -- a machine for which the words stand replies so
  pub replies : (start : Start) (slot : ℕ) (q : PassView StateValue) (e : Entry) → IsAnsweredOn start slot q e
      → RepliesOne start.policies start.states q.view.image.words e.call e.reply
  -- a reply that moves nothing may be drawn
  pub draws : (place : ℕ) (a q : PassView StateValue) (e : Entry) → HasSpare a → IsOnSlot place a q → is_moving e.reply ≡ false → MayStay q.view e
  -- once it was, and both turns were given back, the call is handled
  pub handled : (place : ℕ) (a q d : PassView StateValue) (e : Entry) → IsOnSlot place a q → SettledOn place e q d → is_moving e.reply ≡ false
      → RepliesOne a.view.life.start.policies a.view.life.start.states q.view.image.words e.call e.reply → is_contended e.reply ≡ false → Handled e.at e.call a d
