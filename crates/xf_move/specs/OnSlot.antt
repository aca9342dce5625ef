-- A call for the state in one slot, whose turn the pass took for it.
use Rattle.std.specs.Prelude.{◌≡◌, ℕ, ◌+◌, ◌<◌, true, false, [], ◌∷◌, None}
use Rattle.xf_types.specs.ChangeIds.{ChangeIds}
use Rattle.xf_types.specs.History.{is_contended}
use Rattle.xf_types.specs.Machine.{Machine}
use Rattle.xf_rows.specs.Values.{Beside}
use Rattle.xf_views.specs.declared.entry.Entry.{Entry}
use Rattle.xf_views.specs.declared.view.Start.{Start}
use Rattle.xf_views.specs.Views.{view_after_give, view_after_leave}
use Rattle.xf_legalpart.specs.Honest.{IsForKept}
use Rattle.xf_meaning.specs.Calls.{AreKept, AnswersAll, IsKnown}
use Rattle.xf_meaning.specs.Good.{Good}
use Rattle.xf_meaning.specs.Tells.{lists}
use Rattle.xf_values.specs.declared.state_value.StateValue.{StateValue}
use Rattle.xf_table.specs.Plays.{Stayed}
use Rattle.xf_live.specs.Passes.{PassView, IsKept, me_of}
use Rattle.xf_live.specs.Values.{holds, slots_in, slots_of_turns, without}
use Rattle.xf_desk.specs.Lending.{AllHome}
use Rattle.xf_desk.specs.Values.{beside_of}

-- The words stand for a machine, and the values that stood for it before the call stand for the one after it now. The state that the call is for, if
-- any, is one that the turns keep; that of the slot is held, and no value is out.
pub record IsAnsweredOn (start : Start) (slot : ℕ) (p : PassView StateValue) (e : Entry) : Type 0 where
  pub below : slot < start.states
  pub held : holds p.values (start.policies + slot) ≡ true
  pub home : AllHome p.values
  pub before : Beside
  pub machine : Machine
  pub ids : ChangeIds
  pub known : IsKnown start.policies start.states p.view.image.words p.view.own.turns machine ids
  pub kept : AreKept start.policies start.states p.view.own.turns before
  pub same : Beside.held (beside_of start p.values) ≡ before.held
  pub answers : AnswersAll start.policies start.states p.view.image.words before p.view.image.words (beside_of start p.values) e.call e.reply
  pub for : IsForKept p.view.own.turns machine.shown e.call
  pub settled : is_contended e.reply ≡ false

-- a receipt that moves nothing was drawn, and the turns were given back, that of the slot first
pub record SettledOn (place : ℕ) (e : Entry) (p q : PassView StateValue) : Type 0 where
  pub number : ℕ
  pub drawn : PassView StateValue
  pub kept : IsKept p drawn
  pub row : Stayed Good lists e number (me_of p) (me_of drawn)
  pub left : q ≡ record drawn { view = view_after_leave (view_after_give drawn.view place); values = without drawn.values place }

-- The pass knows a machine for which the words stand, with the values of the slots whose turns it has.
pub record KnowsAll (policies states : ℕ) (start : Start) (p : PassView StateValue) : Type 0 where
  pub machine : Machine
  pub ids : ChangeIds
  pub known : IsKnown policies states p.view.image.words p.view.own.turns machine ids
  pub kept : AreKept policies states p.view.own.turns (beside_of start p.values)

-- The pass has the turn and that of one slot, and didn't draw. Else it is as it was at its rest, but for its ticket and the words that it knows.
pub record IsOnSlot (place : ℕ) (a q : PassView StateValue) : Type 0 where
  pub table : q.table ≡ a.table
  pub room : q.room ≡ a.room
  pub life : q.view.life ≡ a.view.life
  pub worker : q.view.worker ≡ a.view.worker
  pub mine : q.view.knows.mine ≡ a.view.knows.mine
  pub seen : q.view.knows.seen ≡ a.view.knows.seen
  pub count : q.view.knows.count ≡ a.view.knows.count + 1
  pub trial : q.view.hand.trial ≡ None
  pub turn : q.view.hand.has_turn ≡ true
  pub shut : q.view.hand.writing ≡ false
  pub turns : slots_of_turns q.view.own.turns ≡ place ∷ []
  pub values : slots_in q.values ≡ place ∷ []
