-- What is said of each step: it keeps the pin part.
use Rattle.std.specs.Prelude.{◌≡◌, ℕ, ◌+◌, ◌<◌, ◌≤◌, ◌⊎◌, true, false, List, length, Option, slice_index, slice_set}
use Rattle.std.proofs.Common.{set}
use mathlib.Core.Option.{some}
use lib.ListN.{get_elem?}
use Rattle.xf_types.specs.declared.call.Receipt.{Receipt}
use Rattle.xf_types.specs.declared.state.Sa.{Sa}
use Rattle.xf_views.specs.declared.entry.Listed.{Listed}
use Rattle.xf_views.specs.declared.view.View.{View}
use Rattle.xf_views.specs.declared.view.SlotTurn.{SlotTurn}
use Rattle.xf_views.specs.Hands.{loaded_since}
use Rattle.xf_views.specs.Views.{view_after_ticket, view_after_serving, view_after_begin, view_after_store, view_after_draw, view_after_trial, view_after_finish, view_after_leave, view_after_generation, view_after_load, view_after_pin, view_after_load_pin, view_after_take, view_after_miss, view_after_give}
use Rattle.xf_invariant.specs.Meaning.{Told}
use Rattle.xf_invariant.specs.ImageLaws.{Scene}
use Rattle.xf_invariant.specs.PinPart.{Has, Holds, PinPart}

module _ (bucket_of : Sa → ℕ) (good : List ℕ → Told → Type 0) (id_place : ℕ → ℕ) where
  -- a moment at which the turn part, the image part and the pin part hold, and a seat that makes the next step
  pub record Watch (most : ℕ) (base : List ℕ) : Type 0 where
    pub scene : Scene bucket_of good most base
    pub policies : ℕ
    pub slots : ℕ
    pub pins : List ℕ
    pub pin_part : PinPart policies slots id_place scene.numbers.generation scene.words scene.settled pins scene.views

  -- the pin part holds after a step after which these are the generation, the image, the settled image, the pin words and what the
  -- seat knows
  abbrev pub HoldsAfter : (most : ℕ) (base : List ℕ) → Watch most base → ℕ → List ℕ → List ℕ → List ℕ → View → Type 0
  HoldsAfter most base w generation words settled pins v =
      PinPart w.policies w.slots id_place generation words settled pins (set w.scene.views w.scene.seat v)

  -- of a step that changes none of them
  abbrev pub StaysAfter : (most : ℕ) (base : List ℕ) → Watch most base → View → Type 0
  StaysAfter most base w v = HoldsAfter most base w w.scene.numbers.generation w.scene.words w.scene.settled w.pins v

  -- of a store
  abbrev pub StoresAfter : (most : ℕ) (base : List ℕ) → Watch most base → ℕ → ℕ → Type 0
  StoresAfter most base w place word =
      HoldsAfter most base w w.scene.numbers.generation (slice_set w.scene.words place word) w.scene.settled w.pins (view_after_store w.slots w.scene.view place word)

  abbrev pub TicketKeepsPins : Type 0
  TicketKeepsPins = (most : ℕ) (base : List ℕ) (w : Watch most base) (t : ℕ) → StaysAfter most base w (view_after_ticket w.scene.view t)

  abbrev pub ServingKeepsPins : Type 0
  ServingKeepsPins =
      (most : ℕ) (base : List ℕ) (w : Watch most base) (serving : ℕ) (words : List ℕ) → w.scene.view.hand.has_turn ≡ false
      → StaysAfter most base w (view_after_serving w.scene.view serving words)

  abbrev pub BeginKeepsPins : Type 0
  BeginKeepsPins =
      (most : ℕ) (base : List ℕ) (w : Watch most base)
      → HoldsAfter most base w (w.scene.numbers.generation + 1) w.scene.words w.scene.settled w.pins (view_after_begin w.scene.view)

  -- the pin word of every seat, loaded in this turn and since the slot was retired, was 0 or later than the retirement
  abbrev pub AllClear : (most : ℕ) (base : List ℕ) → Watch most base → ℕ → Type 0
  AllClear most base w s =
      (k : ℕ) → k < w.scene.made
      → (pin : ℕ) × Has (loaded_since s w.scene.view.hand) (k, pin) × ((pin ≡ 0) ⊎ (slice_index w.scene.words s < pin))

  -- a listed slot is retired; a free one is listed; so is a retired one for which all seats are clear; and a word behind the statuses
  pub record StoreKeepsPins : Type 0 where
    pub retires : (most : ℕ) (base : List ℕ) (w : Watch most base) (s : ℕ) → w.scene.view.hand.writing ≡ true → s < w.slots → w.slots ≤ length w.scene.words
        → slice_index w.scene.words s ≡ 1 → StoresAfter most base w s (w.scene.numbers.generation + 1)
    pub lists : (most : ℕ) (base : List ℕ) (w : Watch most base) (s : ℕ) → w.scene.view.hand.writing ≡ true → s < w.slots → w.slots ≤ length w.scene.words
        → slice_index w.scene.words s ≡ 0 → StoresAfter most base w s 1
    pub lists_again : (most : ℕ) (base : List ℕ) (w : Watch most base) (s : ℕ) → w.scene.view.hand.writing ≡ true → s < w.slots → w.slots ≤ length w.scene.words
        → 2 ≤ slice_index w.scene.words s → AllClear most base w s → StoresAfter most base w s 1
    pub others : (most : ℕ) (base : List ℕ) (w : Watch most base) (place word : ℕ) → w.scene.view.hand.writing ≡ true → w.slots ≤ place
        → StoresAfter most base w place word

  -- a move asks that a state's slot which wasn't listed in its opening has the same id as when the opening began
  pub record DrawKeepsPins : Type 0 where
    pub moving : (most : ℕ) (base : List ℕ) (w : Watch most base) (all : List Receipt) (r : Receipt) (turns : List SlotTurn)
        → w.scene.view.hand.has_turn ≡ true → w.scene.view.hand.writing ≡ true → w.scene.view.hand.drawn ≡ false
        → ((s : ℕ) → w.policies ≤ s → s < w.slots → (Has w.scene.view.pins.fresh s → ⊥)
        → slice_index w.scene.view.image.words (id_place s) ≡ slice_index w.scene.view.image.kept (id_place s))
        → HoldsAfter most base w w.scene.numbers.generation w.scene.words w.scene.words w.pins (view_after_draw w.scene.view true all r turns)
    pub still : (most : ℕ) (base : List ℕ) (w : Watch most base) (all : List Receipt) (r : Receipt) (turns : List SlotTurn)
        → StaysAfter most base w (view_after_draw w.scene.view false all r turns)
    pub trial : (most : ℕ) (base : List ℕ) (w : Watch most base) (x : ℕ) (all : List Receipt)
        → StaysAfter most base w (view_after_trial w.scene.view x all)

  abbrev pub FinishKeepsPins : Type 0
  FinishKeepsPins =
      (most : ℕ) (base : List ℕ) (w : Watch most base)
      → HoldsAfter most base w (w.scene.numbers.generation + 1) w.scene.words w.scene.settled w.pins (view_after_finish w.scene.view)

  abbrev pub LeaveKeepsPins : Type 0
  LeaveKeepsPins = (most : ℕ) (base : List ℕ) (w : Watch most base) → StaysAfter most base w (view_after_leave w.scene.view)

  abbrev pub LoadGenerationKeepsPins : Type 0
  LoadGenerationKeepsPins =
      (most : ℕ) (base : List ℕ) (w : Watch most base) (all settled : List Receipt) (turns : List SlotTurn)
      → StaysAfter most base w (view_after_generation w.scene.view w.scene.numbers.generation all settled turns)

  abbrev pub LoadWordKeepsPins : Type 0
  LoadWordKeepsPins =
      (most : ℕ) (base : List ℕ) (w : Watch most base) (place word : ℕ) → StaysAfter most base w (view_after_load w.scene.view place word)

  -- the pin word of the seat is set, or cleared with 0
  abbrev pub PinKeepsPins : Type 0
  PinKeepsPins =
      (most : ℕ) (base : List ℕ) (w : Watch most base) (pin : ℕ) → pin ≤ w.scene.numbers.generation + 1 → w.scene.view.worker < length w.pins
      → HoldsAfter most base w w.scene.numbers.generation w.scene.words w.scene.settled (set w.pins w.scene.view.worker pin) (view_after_pin w.scene.view pin)

  abbrev pub UnpinKeepsPins : Type 0
  UnpinKeepsPins =
      (most : ℕ) (base : List ℕ) (w : Watch most base) → w.scene.view.worker < length w.pins
      → HoldsAfter most base w w.scene.numbers.generation w.scene.words w.scene.settled (set w.pins w.scene.view.worker 0) (view_after_pin w.scene.view 0)

  abbrev pub LoadPinKeepsPins : Type 0
  LoadPinKeepsPins =
      (most : ℕ) (base : List ℕ) (w : Watch most base) (k : ℕ) → w.scene.view.hand.has_turn ≡ true
      → StaysAfter most base w (view_after_load_pin w.scene.view k (slice_index w.pins k))

  -- a slot's turn that is free, and one that isn't
  pub record TakeTurnKeepsPins : Type 0 where
    pub taken : (most : ℕ) (base : List ℕ) (w : Watch most base) (slot : ℕ) (listed : Option Listed) → StaysAfter most base w (view_after_take w.scene.view slot listed)
    pub missed : (most : ℕ) (base : List ℕ) (w : Watch most base) → StaysAfter most base w (view_after_miss w.scene.view)

  abbrev pub GiveTurnKeepsPins : Type 0
  GiveTurnKeepsPins = (most : ℕ) (base : List ℕ) (w : Watch most base) (slot : ℕ) → StaysAfter most base w (view_after_give w.scene.view slot)

  pub record PinsSay : Type 0 where
    -- what a seat holds is listed, or was retired at its pin or later, and its id in the settled image is the held one
    pub held : (most : ℕ) (base : List ℕ) (w : Watch most base) (s sid : ℕ) → Holds w.policies w.slots id_place w.scene.view.pins.shows s sid
        → ((slice_index w.scene.words s ≡ 1) ⊎ ((2 ≤ slice_index w.scene.words s) × (w.scene.view.hand.pin ≤ slice_index w.scene.words s)))
        × (slice_index w.scene.settled (id_place s) ≡ sid)
    -- a retired slot for which all seats were found clear is held by none, so it may be listed again
    pub unheld : (most : ℕ) (base : List ℕ) (w : Watch most base) (s : ℕ) → w.scene.view.hand.has_turn ≡ true → 2 ≤ slice_index w.scene.words s → AllClear most base w s
        → (j : ℕ) (u : View) → get_elem? w.scene.views j ≡ some u → u.here ≡ true → (sid : ℕ) → Holds w.policies w.slots id_place u.pins.shows s sid → ⊥
