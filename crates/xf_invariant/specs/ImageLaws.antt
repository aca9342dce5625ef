-- What is said of each step: it keeps the image part.
use Rattle.std.specs.Prelude.{◌≡◌, ℕ, ◌+◌, true, false, List, [], ◌∷◌, ◌++◌, Option, Some, None, slice_index, slice_set}
use Rattle.std.proofs.Common.{set}
use mathlib.Core.Option.{some}
use lib.ListN.{get_elem?}
use Rattle.xf_types.specs.declared.state.Sa.{Sa}
use Rattle.xf_types.specs.Moves.{is_moving}
use Rattle.xf_views.specs.declared.entry.Entry.{Entry}
use Rattle.xf_views.specs.declared.entry.Listed.{Listed}
use Rattle.xf_views.specs.declared.view.View.{View}
use Rattle.xf_views.specs.declared.view.SlotTurn.{SlotTurn}
use Rattle.xf_views.specs.Log.{Numbers, Mark, mark, receipt, moves}
use Rattle.xf_views.specs.Views.{view_after_ticket, view_after_serving, view_after_begin, view_after_store, view_after_draw, view_after_trial, view_after_finish, view_after_leave, view_after_generation, view_after_load, view_after_pin, view_after_load_pin, view_after_take, view_after_miss, view_after_give}
use Rattle.xf_views.specs.TurnPart.{TurnPart}
use Rattle.xf_invariant.specs.Meaning.{Told, told_after, told_after_moves, Opens}
use Rattle.xf_invariant.specs.ImagePart.{ImagePart}

module _ (bucket_of : Sa → ℕ) (good : List ℕ → Told → Type 0) where
  -- a moment at which the turn part and the image part hold, and a seat that makes the next step
  pub record Scene (most : ℕ) (base : List ℕ) : Type 0 where
    pub made : ℕ
    pub numbers : Numbers
    pub owners : List ℕ
    pub log : List Mark
    pub words : List ℕ
    pub settled : List ℕ
    pub views : List View
    pub seat : ℕ
    pub view : View
    pub turn : TurnPart most made numbers owners log views
    pub image : ImagePart bucket_of good base numbers.generation log words settled views
    pub there : get_elem? views seat ≡ some view
    pub here : view.here ≡ true

  -- the image part holds after a step after which these are the generation, the log, the image, the settled image and what the
  -- seat knows
  abbrev pub HoldsAfter : (most : ℕ) (base : List ℕ) → Scene most base → ℕ → List Mark → List ℕ → List ℕ → View → Type 0
  HoldsAfter most base m generation log words settled v = ImagePart bucket_of good base generation log words settled (set m.views m.seat v)

  -- of a step that changes none of them
  abbrev pub StaysAfter : (most : ℕ) (base : List ℕ) → Scene most base → View → Type 0
  StaysAfter most base m v = HoldsAfter most base m m.numbers.generation m.log m.words m.settled v

  -- of a number of the draw word with this mark
  abbrev pub HoldsDrawn : (most : ℕ) (base : List ℕ) → Scene most base → Mark → List ℕ → View → Type 0
  HoldsDrawn most base m u settled v = HoldsAfter most base m m.numbers.generation (m.log ++ u ∷ []) m.words settled v

  abbrev pub TicketKeepsImage : Type 0
  TicketKeepsImage = (most : ℕ) (base : List ℕ) (m : Scene most base) (t : ℕ) → StaysAfter most base m (view_after_ticket m.view t)

  abbrev pub ServingKeepsImage : Type 0
  ServingKeepsImage =
      (most : ℕ) (base : List ℕ) (m : Scene most base) → m.view.hand.has_turn ≡ false
      → StaysAfter most base m (view_after_serving m.view m.numbers.serving m.words)

  abbrev pub BeginKeepsImage : Type 0
  BeginKeepsImage =
      (most : ℕ) (base : List ℕ) (m : Scene most base) → m.view.hand.has_turn ≡ true → m.view.hand.writing ≡ false
      → HoldsAfter most base m (m.numbers.generation + 1) m.log m.words m.settled (view_after_begin m.view)

  -- the settled image stays
  abbrev pub StoreKeepsImage : Type 0
  StoreKeepsImage =
      (most : ℕ) (base : List ℕ) (m : Scene most base) (slots place word : ℕ) → m.view.hand.writing ≡ true → m.view.hand.drawn ≡ false
      → HoldsAfter most base m m.numbers.generation m.log (slice_set m.words place word) m.settled (view_after_store slots m.view place word)

  -- a move is what leads from what the kept image stands for to what the image stands for now, which is settled by it
  pub record DrawKeepsImage : Type 0 where
    pub moving : (most : ℕ) (base : List ℕ) (m : Scene most base) (sid : Option ℕ) (e : Entry) (turns : List SlotTurn)
        → m.view.hand.has_turn ≡ true → m.view.hand.writing ≡ true → m.view.hand.drawn ≡ false → m.view.hand.trial ≡ None → is_moving e.reply ≡ true
        → let r = receipt m.numbers.draw m.view.worker e in
        ((t : Told) → Opens good base t → good m.view.image.kept (told_after_moves bucket_of t (moves m.log))
        → good m.view.image.words (told_after bucket_of (told_after_moves bucket_of t (moves m.log)) r))
        → HoldsDrawn most base m (mark m.view.worker sid (Some r)) m.words (view_after_draw m.view true (moves m.log ++ r ∷ []) r turns)
    pub still : (most : ℕ) (base : List ℕ) (m : Scene most base) (sid : Option ℕ) (e : Entry) (turns : List SlotTurn)
        → m.view.hand.writing ≡ false → m.view.hand.trial ≡ None → is_moving e.reply ≡ false
        → let r = receipt m.numbers.draw m.view.worker e in
        HoldsDrawn most base m (mark m.view.worker sid (Some r)) m.settled (view_after_draw m.view false (moves m.log) r turns)
    pub trial : (most : ℕ) (base : List ℕ) (m : Scene most base) → m.view.hand.trial ≡ None
        → HoldsDrawn most base m (mark m.view.worker None None) m.settled (view_after_trial m.view m.numbers.draw (moves m.log))

  abbrev pub FinishKeepsImage : Type 0
  FinishKeepsImage =
      (most : ℕ) (base : List ℕ) (m : Scene most base) → m.view.hand.writing ≡ true → m.view.hand.drawn ≡ true
      → HoldsAfter most base m (m.numbers.generation + 1) m.log m.words m.settled (view_after_finish m.view)

  abbrev pub LeaveKeepsImage : Type 0
  LeaveKeepsImage = (most : ℕ) (base : List ℕ) (m : Scene most base) → StaysAfter most base m (view_after_leave m.view)

  -- no receipt comes to stand, or that of the pending trial does
  pub record LoadGenerationKeepsImage : Type 0 where
    pub blank : (most : ℕ) (base : List ℕ) (m : Scene most base) (turns : List SlotTurn)
        → StaysAfter most base m (view_after_generation m.view m.numbers.generation (moves m.log) [] turns)
    pub settled : (most : ℕ) (base : List ℕ) (m : Scene most base) (x : ℕ) (sid : Option ℕ) (e : Entry) (turns : List SlotTurn)
        → m.view.hand.trial ≡ Some x → is_moving e.reply ≡ false
        → let r = receipt x m.view.worker e in
        HoldsAfter most base m m.numbers.generation (set m.log x (mark m.view.worker sid (Some r))) m.words m.settled
        (view_after_generation m.view m.numbers.generation (moves m.log) (r ∷ []) turns)

  abbrev pub LoadWordKeepsImage : Type 0
  LoadWordKeepsImage =
      (most : ℕ) (base : List ℕ) (m : Scene most base) (place : ℕ) → StaysAfter most base m (view_after_load m.view place (slice_index m.words place))

  abbrev pub PinKeepsImage : Type 0
  PinKeepsImage = (most : ℕ) (base : List ℕ) (m : Scene most base) (pin : ℕ) → StaysAfter most base m (view_after_pin m.view pin)

  abbrev pub UnpinKeepsImage : Type 0
  UnpinKeepsImage = (most : ℕ) (base : List ℕ) (m : Scene most base) → StaysAfter most base m (view_after_pin m.view 0)

  abbrev pub LoadPinKeepsImage : Type 0
  LoadPinKeepsImage = (most : ℕ) (base : List ℕ) (m : Scene most base) (k pin : ℕ) → StaysAfter most base m (view_after_load_pin m.view k pin)

  -- a slot's turn that is free, and one that isn't
  pub record TakeTurnKeepsImage : Type 0 where
    pub taken : (most : ℕ) (base : List ℕ) (m : Scene most base) (slot : ℕ) (listed : Option Listed) → StaysAfter most base m (view_after_take m.view slot listed)
    pub missed : (most : ℕ) (base : List ℕ) (m : Scene most base) → StaysAfter most base m (view_after_miss m.view)

  abbrev pub GiveTurnKeepsImage : Type 0
  GiveTurnKeepsImage = (most : ℕ) (base : List ℕ) (m : Scene most base) (slot : ℕ) → StaysAfter most base m (view_after_give m.view slot)
