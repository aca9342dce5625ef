-- What is said of each step: it keeps the own part.
use Rattle.std.specs.Prelude.{◌≡◌, ℕ, ◌+◌, true, false, List, [], ◌∷◌, ◌++◌, map, take, Option, Some, None}
use Rattle.std.proofs.Common.{set}
use mathlib.Core.Option.{some}
use lib.ListN.{get_elem?}
use Rattle.xf_types.specs.declared.state.Sa.{Sa}
use Rattle.xf_types.specs.Machine.{Machine}
use Rattle.xf_types.specs.ChangeIds.{ChangeIds}
use Rattle.xf_types.specs.Moves.{is_moving}
use Rattle.xf_types.specs.History.{MayReply, IsLegalHistory, beginning, moment_of, machine_of}
use Rattle.xf_types.specs.IsMachine.{IsMachine}
use Rattle.xf_types.specs.Standing.{Standing}
use Rattle.xf_late.specs.Rests.{rests_on}
use Rattle.xf_views.specs.declared.entry.Entry.{Entry}
use Rattle.xf_views.specs.declared.entry.Listed.{Listed}
use Rattle.xf_views.specs.declared.view.View.{View}
use Rattle.xf_views.specs.declared.view.SlotTurn.{SlotTurn}
use Rattle.xf_views.specs.Hands.{is_same}
use Rattle.xf_views.specs.Log.{Mark, mark, receipt, receipts_of, moves}
use Rattle.xf_views.specs.Views.{view_after_ticket, view_after_serving, view_after_begin, view_after_store, view_after_draw, view_after_trial, view_after_finish, view_after_leave, view_after_generation, view_after_load, view_after_pin, view_after_load_pin, view_after_take, view_after_miss, view_after_give}
use Rattle.xf_invariant.specs.Meaning.{Told, told, told_after, told_after_moves, Opens}
use Rattle.xf_invariant.specs.ImageLaws.{Scene}
use Rattle.xf_invariant.specs.PinPart.{Has}
use Rattle.xf_ownpart.specs.OwnPart.{OwnPart, standing_of}
use Rattle.xf_ownpart.specs.Turns.{IsHeld, IsCovered, tried_of, touched_turn, moved_turn, KeepsSlots}

module _ (bucket_of : Sa → ℕ) (good : List ℕ → Told → Type 0) (lists : List ℕ → ℕ → Option (Sa × ℕ)) where
  -- the machine at the beginning: with some ids of changes the words at the beginning stand for it
  pub record IsStart (base : List ℕ) (start : Machine) : Type 0 where
    pub machine : IsMachine start
    pub ids : ChangeIds
    pub stands : good base (told start.shown ids)

  -- a moment at which the turn part, the image part and the own part hold, and the receipts are a legal history, from this machine on; and a seat that makes
  -- the next step
  pub record Shift (most : ℕ) (base : List ℕ) (start : Machine) : Type 0 where
    pub scene : Scene bucket_of good most base
    pub turns : List ℕ
    pub home : ℕ → Standing
    pub opens : IsStart base start
    pub legal : IsLegalHistory start (receipts_of scene.log)
    pub own : OwnPart lists start scene.settled turns scene.log home scene.views

  -- the machine after all receipts that stand
  abbrev pub last_of : (most : ℕ) (base : List ℕ) (start : Machine) → Shift most base start → Machine
  last_of most base start w = machine_of start (receipts_of w.scene.log)

  -- the own part holds after a step after which these are the settled image, the turn words, the log, the values at home and what the seat knows
  abbrev pub HoldsAfter : (most : ℕ) (base : List ℕ) (start : Machine) → Shift most base start → List ℕ → List ℕ → List Mark → (ℕ → Standing) → View → Type 0
  HoldsAfter most base start w settled turns log home v = OwnPart lists start settled turns log home (set w.scene.views w.scene.seat v)

  -- of a step that changes none of them
  abbrev pub StaysAfter : (most : ℕ) (base : List ℕ) (start : Machine) → Shift most base start → View → Type 0
  StaysAfter most base start w v = HoldsAfter most base start w w.scene.settled w.turns w.scene.log w.home v

  -- of a number of the draw word with this mark
  abbrev pub HoldsDrawn : (most : ℕ) (base : List ℕ) (start : Machine) → Shift most base start → List ℕ → Mark → View → Type 0
  HoldsDrawn most base start w settled u v = HoldsAfter most base start w settled w.turns (w.scene.log ++ u ∷ []) w.home v

  abbrev pub TicketKeepsOwn : Type 0
  TicketKeepsOwn =
      (most : ℕ) (base : List ℕ) (start : Machine) (w : Shift most base start) (t : ℕ) → StaysAfter most base start w (view_after_ticket w.scene.view t)

  abbrev pub ServingKeepsOwn : Type 0
  ServingKeepsOwn =
      (most : ℕ) (base : List ℕ) (start : Machine) (w : Shift most base start) (serving : ℕ) (words : List ℕ)
      → StaysAfter most base start w (view_after_serving w.scene.view serving words)

  abbrev pub BeginKeepsOwn : Type 0
  BeginKeepsOwn =
      (most : ℕ) (base : List ℕ) (start : Machine) (w : Shift most base start) → StaysAfter most base start w (view_after_begin w.scene.view)

  abbrev pub StoreKeepsOwn : Type 0
  StoreKeepsOwn =
      (most : ℕ) (base : List ℕ) (start : Machine) (w : Shift most base start) (slots place word : ℕ)
      → StaysAfter most base start w (view_after_store slots w.scene.view place word)

  -- a draw. A receipt that stands may do so after all others; where it rests on a state's own part, a held turn keeps the state
  pub record DrawKeepsOwn : Type 0 where
    -- a move: the image stands for what it makes of what the kept image stands for, and of the slots it leaves what it may
    pub moving : (most : ℕ) (base : List ℕ) (start : Machine) (w : Shift most base start) (e : Entry)
        → w.scene.view.hand.has_turn ≡ true → w.scene.view.hand.writing ≡ true → w.scene.view.hand.drawn ≡ false → w.scene.view.hand.trial ≡ None
        → is_moving e.reply ≡ true
        → let v = w.scene.view in
        let all = moves w.scene.log in
        let r = receipt w.scene.numbers.draw v.worker e in
        let one = rests_on (last_of most base start w).shown r in
        MayReply (moment_of (beginning start) (receipts_of w.scene.log)) r r.reply
        → ((t : Told) → Opens good base t → good v.image.kept (told_after_moves bucket_of t all) → good v.image.words (told_after bucket_of (told_after_moves bucket_of t all) r))
        → KeepsSlots lists v.own.turns v.image.kept v.image.words
        → IsCovered v.own.turns one
        → HoldsDrawn most base start w w.scene.words (mark v.worker one (Some r))
        (view_after_draw v true (all ++ r ∷ []) r (map (moved_turn lists v.image.words one r.call) v.own.turns))
    -- another receipt, under the turn or under a slot's
    pub still : (most : ℕ) (base : List ℕ) (start : Machine) (w : Shift most base start) (e : Entry)
        → w.scene.view.hand.trial ≡ None → is_moving e.reply ≡ false
        → let v = w.scene.view in
        let r = receipt w.scene.numbers.draw v.worker e in
        let one = rests_on (last_of most base start w).shown r in
        MayReply (moment_of (beginning start) (receipts_of w.scene.log)) r r.reply
        → IsCovered v.own.turns one
        → HoldsDrawn most base start w w.scene.settled (mark v.worker one (Some r))
        (view_after_draw v false (moves w.scene.log) r (map (touched_turn one r.call) v.own.turns))
    -- one that waits
    pub trial : (most : ℕ) (base : List ℕ) (start : Machine) (w : Shift most base start)
        → HoldsDrawn most base start w w.scene.settled (mark w.scene.view.worker None None)
        (view_after_trial w.scene.view w.scene.numbers.draw (moves w.scene.log))

  abbrev pub FinishKeepsOwn : Type 0
  FinishKeepsOwn =
      (most : ℕ) (base : List ℕ) (start : Machine) (w : Shift most base start) → StaysAfter most base start w (view_after_finish w.scene.view)

  abbrev pub LeaveKeepsOwn : Type 0
  LeaveKeepsOwn =
      (most : ℕ) (base : List ℕ) (start : Machine) (w : Shift most base start) → StaysAfter most base start w (view_after_leave w.scene.view)

  -- no receipt comes to stand, or that of the pending trial does, in a read that ends the same: it may stand at its place, and where it rests on a state's
  -- own part, a turn keeps the state that was held at the draw
  pub record LoadGenerationKeepsOwn : Type 0 where
    pub blank : (most : ℕ) (base : List ℕ) (start : Machine) (w : Shift most base start)
        → StaysAfter most base start w (view_after_generation w.scene.view w.scene.numbers.generation (moves w.scene.log) [] w.scene.view.own.turns)
    pub settled : (most : ℕ) (base : List ℕ) (start : Machine) (w : Shift most base start) (x : ℕ) (e : Entry)
        → w.scene.view.hand.trial ≡ Some x → is_same w.scene.view.hand.began w.scene.numbers.generation ≡ true → is_moving e.reply ≡ false
        → let v = w.scene.view in
        let r = receipt x v.worker e in
        let one = rests_on (last_of most base start w).shown r in
        MayReply (moment_of (beginning start) (receipts_of (take x w.scene.log))) r r.reply
        → IsCovered (tried_of v.own.turns) one
        → HoldsAfter most base start w w.scene.settled w.turns (set w.scene.log x (mark v.worker one (Some r))) w.home
        (view_after_generation v w.scene.numbers.generation (moves w.scene.log) (r ∷ []) (map (touched_turn one r.call) v.own.turns))

  abbrev pub LoadWordKeepsOwn : Type 0
  LoadWordKeepsOwn =
      (most : ℕ) (base : List ℕ) (start : Machine) (w : Shift most base start) (place word : ℕ) → StaysAfter most base start w (view_after_load w.scene.view place word)

  abbrev pub PinKeepsOwn : Type 0
  PinKeepsOwn = (most : ℕ) (base : List ℕ) (start : Machine) (w : Shift most base start) (pin : ℕ) → StaysAfter most base start w (view_after_pin w.scene.view pin)

  abbrev pub UnpinKeepsOwn : Type 0
  UnpinKeepsOwn = (most : ℕ) (base : List ℕ) (start : Machine) (w : Shift most base start) → StaysAfter most base start w (view_after_pin w.scene.view 0)

  abbrev pub LoadPinKeepsOwn : Type 0
  LoadPinKeepsOwn =
      (most : ℕ) (base : List ℕ) (start : Machine) (w : Shift most base start) (k pin : ℕ) → StaysAfter most base start w (view_after_load_pin w.scene.view k pin)

  -- a slot's turn that is free is taken with what the value at home stands for; one that isn't free changes nothing
  pub record TakeTurnKeepsOwn : Type 0 where
    pub taken : (most : ℕ) (base : List ℕ) (start : Machine) (w : Shift most base start) (slot : ℕ) (listed : Option Listed)
        → get_elem? w.turns slot ≡ some 0 → w.home slot ≡ standing_of listed
        → HoldsAfter most base start w w.scene.settled (set w.turns slot (w.scene.view.worker + 1)) w.scene.log w.home (view_after_take w.scene.view slot listed)
    pub missed : (most : ℕ) (base : List ℕ) (start : Machine) (w : Shift most base start) → StaysAfter most base start w (view_after_miss w.scene.view)

  -- a held turn is given back, where the value at home stands for what it keeps
  abbrev pub GiveTurnKeepsOwn : Type 0
  GiveTurnKeepsOwn =
      (most : ℕ) (base : List ℕ) (start : Machine) (w : Shift most base start) (e : SlotTurn) → Has w.scene.view.own.turns e → w.home e.slot ≡ standing_of e.listed
      → HoldsAfter most base start w w.scene.settled (set w.turns e.slot 0) w.scene.log w.home (view_after_give w.scene.view e.slot)

  -- other values at home, but those of slots whose turns the seat holds
  abbrev pub ValuesKeepOwn : Type 0
  ValuesKeepOwn =
      (most : ℕ) (base : List ℕ) (start : Machine) (w : Shift most base start) (home : ℕ → Standing)
      → ((slot : ℕ) → (IsHeld w.scene.view.own.turns slot → ⊥) → home slot ≡ w.home slot)
      → OwnPart lists start w.scene.settled w.turns w.scene.log home w.scene.views
