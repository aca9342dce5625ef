-- What is said of each step: it keeps the turn part.
use Rattle.std.specs.Prelude.{◌≡◌, ℕ, ◌+◌, ◌<◌, true, false, List, [], ◌∷◌, ◌++◌, Option, Some, None}
use Rattle.std.proofs.Common.{set}
use mathlib.Core.Option.{some}
use lib.ListN.{get_elem?}
use Rattle.xf_types.specs.Moves.{is_moving}
use Rattle.xf_views.specs.declared.entry.Entry.{Entry}
use Rattle.xf_views.specs.declared.entry.Listed.{Listed}
use Rattle.xf_views.specs.declared.view.View.{View}
use Rattle.xf_views.specs.declared.view.SlotTurn.{SlotTurn}
use Rattle.xf_views.specs.Log.{Numbers, Mark, mark, receipt, moves}
use Rattle.xf_views.specs.Views.{view_after_ticket, view_after_serving, view_after_begin, view_after_store, view_after_draw, view_after_trial, view_after_finish, view_after_leave, view_after_generation, view_after_load, view_after_pin, view_after_load_pin, view_after_take, view_after_miss, view_after_give}
use Rattle.xf_views.specs.TurnPart.{TurnPart}

-- a moment at which the turn part holds, and a seat that makes the next step
pub record Moment (most : ℕ) : Type 0 where
  pub made : ℕ
  pub numbers : Numbers
  pub owners : List ℕ
  pub log : List Mark
  pub views : List View
  pub seat : ℕ
  pub view : View
  pub holds : TurnPart most made numbers owners log views
  pub there : get_elem? views seat ≡ some view
  pub here : view.here ≡ true

-- the turn part holds after a step after which these are the numbers, the owners of tickets, the log and what the seat knows
abbrev pub HoldsAfter : (most : ℕ) → Moment most → Numbers → List ℕ → List Mark → View → Type 0
HoldsAfter most m n owners log v = TurnPart most m.made n owners log (set m.views m.seat v)

-- of a step that changes no number, no ticket and no mark
abbrev pub StaysAfter : (most : ℕ) → Moment most → View → Type 0
StaysAfter most m v = HoldsAfter most m m.numbers m.owners m.log v

-- a number of the draw word with this mark
abbrev pub HoldsDrawn : (most : ℕ) → Moment most → Mark → View → Type 0
HoldsDrawn most m u v =
    let n = m.numbers in HoldsAfter most m (record n { draw = n.draw + 1 }) m.owners (m.log ++ u ∷ []) v

abbrev pub TicketKeepsTurn : Type 0
TicketKeepsTurn =
    (most : ℕ) (m : Moment most) → m.view.hand.ticket ≡ None → m.view.knows.count < most
    → let n = m.numbers in HoldsAfter most m (record n { ticket = n.ticket + 1 }) (m.owners ++ m.view.worker ∷ []) m.log (view_after_ticket m.view n.ticket)

abbrev pub ServingKeepsTurn : Type 0
ServingKeepsTurn =
    (most : ℕ) (m : Moment most) (words : List ℕ) → m.view.hand.has_turn ≡ false
    → StaysAfter most m (view_after_serving m.view m.numbers.serving words)

abbrev pub BeginKeepsTurn : Type 0
BeginKeepsTurn =
    (most : ℕ) (m : Moment most) → m.view.hand.has_turn ≡ true → m.view.hand.writing ≡ false
    → let n = m.numbers in HoldsAfter most m (record n { generation = n.generation + 1 }) m.owners m.log (view_after_begin m.view)

abbrev pub StoreKeepsTurn : Type 0
StoreKeepsTurn =
    (most : ℕ) (m : Moment most) (slots place word : ℕ) → StaysAfter most m (view_after_store slots m.view place word)

-- a draw: of a move under the turn; of another receipt, under the turn or under a slot's; and one that waits. Whatever becomes
-- known of the slots' turns
pub record DrawKeepsTurn : Type 0 where
  pub moving : (most : ℕ) (m : Moment most) (sid : Option ℕ) (e : Entry) (turns : List SlotTurn)
      → m.view.hand.has_turn ≡ true → m.view.hand.writing ≡ true → m.view.hand.drawn ≡ false → m.view.hand.trial ≡ None
      → m.view.knows.count < most → is_moving e.reply ≡ true
      → let r = receipt m.numbers.draw m.view.worker e in
      HoldsDrawn most m (mark m.view.worker sid (Some r)) (view_after_draw m.view true (moves m.log ++ r ∷ []) r turns)
  pub still : (most : ℕ) (m : Moment most) (sid : Option ℕ) (e : Entry) (turns : List SlotTurn)
      → m.view.hand.writing ≡ false → m.view.hand.trial ≡ None → m.view.knows.count < most → is_moving e.reply ≡ false
      → let r = receipt m.numbers.draw m.view.worker e in
      HoldsDrawn most m (mark m.view.worker sid (Some r)) (view_after_draw m.view false (moves m.log) r turns)
  pub trial : (most : ℕ) (m : Moment most)
      → m.view.hand.has_turn ≡ false → m.view.hand.trial ≡ None → m.view.knows.count < most
      → HoldsDrawn most m (mark m.view.worker None None) (view_after_trial m.view m.numbers.draw (moves m.log))

abbrev pub FinishKeepsTurn : Type 0
FinishKeepsTurn =
    (most : ℕ) (m : Moment most) → m.view.hand.writing ≡ true → m.view.hand.drawn ≡ true
    → let n = m.numbers in HoldsAfter most m (record n { generation = n.generation + 1 }) m.owners m.log (view_after_finish m.view)

abbrev pub LeaveKeepsTurn : Type 0
LeaveKeepsTurn =
    (most : ℕ) (m : Moment most) → m.view.hand.has_turn ≡ true → m.view.hand.writing ≡ false
    → let n = m.numbers in HoldsAfter most m (record n { serving = n.serving + 1 }) m.owners m.log (view_after_leave m.view)

-- a load of the generation: no receipt comes to stand, or that of the pending trial does
pub record LoadGenerationKeepsTurn : Type 0 where
  pub blank : (most : ℕ) (m : Moment most) (turns : List SlotTurn)
      → StaysAfter most m (view_after_generation m.view m.numbers.generation (moves m.log) [] turns)
  pub settled : (most : ℕ) (m : Moment most) (x : ℕ) (sid : Option ℕ) (e : Entry) (turns : List SlotTurn)
      → m.view.hand.trial ≡ Some x → is_moving e.reply ≡ false
      → let r = receipt x m.view.worker e in
      HoldsAfter most m m.numbers m.owners (set m.log x (mark m.view.worker sid (Some r)))
      (view_after_generation m.view m.numbers.generation (moves m.log) (r ∷ []) turns)

abbrev pub LoadWordKeepsTurn : Type 0
LoadWordKeepsTurn = (most : ℕ) (m : Moment most) (place word : ℕ) → StaysAfter most m (view_after_load m.view place word)

abbrev pub PinKeepsTurn : Type 0
PinKeepsTurn = (most : ℕ) (m : Moment most) (pin : ℕ) → StaysAfter most m (view_after_pin m.view pin)

abbrev pub UnpinKeepsTurn : Type 0
UnpinKeepsTurn = (most : ℕ) (m : Moment most) → StaysAfter most m (view_after_pin m.view 0)

abbrev pub LoadPinKeepsTurn : Type 0
LoadPinKeepsTurn = (most : ℕ) (m : Moment most) (k pin : ℕ) → StaysAfter most m (view_after_load_pin m.view k pin)

-- a slot's turn that is free, and one that isn't
pub record TakeTurnKeepsTurn : Type 0 where
  pub taken : (most : ℕ) (m : Moment most) (slot : ℕ) (listed : Option Listed) → StaysAfter most m (view_after_take m.view slot listed)
  pub missed : (most : ℕ) (m : Moment most) → StaysAfter most m (view_after_miss m.view)

abbrev pub GiveTurnKeepsTurn : Type 0
GiveTurnKeepsTurn = (most : ℕ) (m : Moment most) (slot : ℕ) → StaysAfter most m (view_after_give m.view slot)
