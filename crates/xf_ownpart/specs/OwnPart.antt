-- The own part of what always holds: slots' turns, and the own parts of the states that are listed there.
use Rattle.std.specs.Prelude.{◌≡◌, ℕ, ◌+◌, ◌<◌, true, if◌then◌else◌, List, [], ◌∷◌, Option, Some, None, IfSome}
use Rattle.std.specs.Option.{option_map}
use mathlib.Core.Option.{some}
use lib.ListN.{get_elem?}
use Rattle.xf_types.specs.declared.call.Receipt.{Receipt}
use Rattle.xf_types.specs.declared.state.Sa.{Sa}
use Rattle.xf_types.specs.Machine.{Machine, Own, Shown}
use Rattle.xf_types.specs.OwnParts.{own_in}
use Rattle.xf_types.specs.Moves.{is_moving, after_move}
use Rattle.xf_types.specs.History.{machine_of}
use Rattle.xf_types.specs.Standing.{Standing, Nothing, OneState}
use Rattle.xf_late.specs.Rests.{rests_on}
use Rattle.xf_views.specs.declared.entry.Listed.{Listed}
use Rattle.xf_views.specs.declared.view.View.{View}
use Rattle.xf_views.specs.declared.view.SlotTurn.{SlotTurn}
use Rattle.xf_views.specs.Log.{Mark, receipts_of}
use Rattle.xf_invariant.specs.PinPart.{Has}

-- a listed state from its record, the time and its own part
abbrev pub listing : Sa → ℕ → Own → Listed
listing x time own = record { state = x; time = time; own = own }

-- what a value stands for that stands for what is listed
abbrev pub standing_of : Option Listed → Standing
standing_of None = Nothing
standing_of (Some l) = OneState l.state l.time l.own

-- what is listed, with the own part that the machine has for it
abbrev pub with_own : Machine → Sa × ℕ → Listed
with_own m x = listing x.0 x.1 (own_in m x.0)

-- what is shown after a number of the draw word: a receipt there that moves says what
abbrev pub shown_with : Shown → Option Receipt → Shown
shown_with s None = s
shown_with s (Some r) = if is_moving r.reply then after_move s r.call r.reply else s

-- each mark with a receipt says on whose own part it rests, by what is shown before it
abbrev pub AreMarked : Shown → List Mark → Type 0
AreMarked s [] = Unit {0}
AreMarked s (m ∷ ms) = IfSome m.receipt (λ r. m.rests ≡ rests_on s r) × AreMarked (shown_with s m.receipt) ms

module _ (lists : List ℕ → ℕ → Option (Sa × ℕ)) where
  -- what the image lists at a slot, with the own part that the machine has for it
  abbrev pub listed_at : Machine → List ℕ → ℕ → Option Listed
  listed_at m image slot = option_map (with_own m) (lists image slot)

  -- what is said of a slot's turn that a seat holds. The slot's turn word is the seat's number plus 1. What the turn keeps is what the
  -- settled image lists at the slot, with the own part after all receipts; and while a trial waits that was drawn under it, no receipt with a greater number rests on the state
  pub record FitsOwn (last : Machine) (settled turns : List ℕ) (log : List Mark) (k : ℕ) (late : Option ℕ) (e : SlotTurn) : Type 0 where
    pub word : get_elem? turns e.slot ≡ some (k + 1)
    pub keeps : listed_at last settled e.slot ≡ e.listed
    pub no_later : (l : Listed) (x y : ℕ) (m : Mark) → e.tried ≡ true → e.listed ≡ Some l → late ≡ Some x → x < y → get_elem? log y ≡ some m
        → m.rests ≡ Some l.state.sid → ⊥

  -- of a seat as it knows itself
  abbrev pub IsInOwn : Machine → List ℕ → List ℕ → List Mark → View → Type 0
  IsInOwn last settled turns log v =
      (e : SlotTurn) → Has v.own.turns e → FitsOwn last settled turns log v.worker v.hand.trial e

  -- home tells what the value at a slot stands for: where the slot's turn is free, for what the settled image lists there, with the
  -- own part that the machine has after all receipts, from the start on
  pub record OwnPart (start : Machine) (settled turns : List ℕ) (log : List Mark) (home : ℕ → Standing) (views : List View) : Type 0 where
    pub marked : AreMarked start.shown log
    pub free : (slot : ℕ) → get_elem? turns slot ≡ some 0
        → home slot ≡ standing_of (listed_at (machine_of start (receipts_of log)) settled slot)
    pub each : (i : ℕ) (v : View) → get_elem? views i ≡ some v → v.here ≡ true
        → IsInOwn (machine_of start (receipts_of log)) settled turns log v
