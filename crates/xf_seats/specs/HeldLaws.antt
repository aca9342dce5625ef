-- What is said of each step: it keeps the part on held turns. And what that part says at the end.
use Rattle.std.specs.Prelude.{◌≡◌, ℕ, ◌+◌, true, List, [], map, Option}
use Rattle.std.proofs.Common.{set}
use mathlib.Core.Option.{some}
use lib.ListN.{get_elem?}
use Rattle.xf_types.specs.declared.call.Call.{Call}
use Rattle.xf_types.specs.declared.state.Sa.{Sa}
use Rattle.xf_views.specs.declared.entry.Listed.{Listed}
use Rattle.xf_views.specs.declared.view.View.{View}
use Rattle.xf_views.specs.declared.view.Start.{Start}
use Rattle.xf_views.specs.Views.{view_after_take, view_after_give}
use Rattle.xf_views.specs.TurnSays.{IsSeat}
use Rattle.xf_ownpart.specs.Turns.{IsHeld, touched_turn, moved_turn}
use Rattle.xf_seats.specs.Seats.{split_views, joined_views}
use Rattle.xf_seats.specs.FirstSeat.{one_seat}
use Rattle.xf_seats.specs.HeldPart.{HeldPart}

-- the seat is the same one, and holds each slot's turn that it held
pub record StillHolds (v w : View) : Type 0 where
  pub here : w.here ≡ true
  pub worker : w.worker ≡ v.worker
  pub holds : (slot : ℕ) → IsHeld v.own.turns slot → IsHeld w.own.turns slot

-- a step that takes no slot's turn and gives none back
abbrev pub OthersKeepHeld : Type 0
OthersKeepHeld =
    (turns : List ℕ) (views : List View) (i : ℕ) (v w : View) → IsSeat views i v → StillHolds v w → HeldPart turns views → HeldPart turns (set views i w)

-- what a draw makes of the turns leaves their slots
pub record DrawsHold : Type 0 where
  pub touched : (v w : View) (one : Option ℕ) (c : Call) → w.here ≡ true → w.worker ≡ v.worker → w.own.turns ≡ map (touched_turn one c) v.own.turns → StillHolds v w
  pub moved : (lists : List ℕ → ℕ → Option (Sa × ℕ)) (image : List ℕ) (v w : View) (one : Option ℕ) (c : Call) → w.here ≡ true → w.worker ≡ v.worker
      → w.own.turns ≡ map (moved_turn lists image one c) v.own.turns → StillHolds v w

-- a turn that was free is taken
abbrev pub TakeKeepsHeld : Type 0
TakeKeepsHeld =
    (turns : List ℕ) (views : List View) (i : ℕ) (v : View) (slot : ℕ) (listed : Option Listed) → IsSeat views i v → get_elem? turns slot ≡ some 0
    → HeldPart turns views → HeldPart (set turns slot (v.worker + 1)) (set views i (view_after_take v slot listed))

-- a turn is given back
abbrev pub GiveKeepsHeld : Type 0
GiveKeepsHeld =
    (turns : List ℕ) (views : List View) (i : ℕ) (v : View) (slot : ℕ) → IsSeat views i v
    → HeldPart turns views → HeldPart (set turns slot 0) (set views i (view_after_give v slot))

abbrev pub SplitKeepsHeld : Type 0
SplitKeepsHeld = (turns : List ℕ) (views : List View) (i : ℕ) (v : View) → IsSeat views i v → HeldPart turns views → HeldPart turns (split_views views i v)

-- the seat that is taken in holds no turn
abbrev pub JoinKeepsHeld : Type 0
JoinKeepsHeld =
    (turns : List ℕ) (views : List View) (i j : ℕ) (v w : View) → IsSeat views i v → IsSeat views j w → (j ≡ i → ⊥) → w.own.turns ≡ []
    → HeldPart turns views → HeldPart turns (joined_views views i v j w)

-- at the start all turns are free
abbrev pub OneSeatHeld : Type 0
OneSeatHeld = (turns : List ℕ) (start : Start) → ((slot x : ℕ) → get_elem? turns slot ≡ some x → x ≡ 0) → HeldPart turns (one_seat start)

-- where one seat is there, and holds no turn, all turns are free
abbrev pub AloneAllFree : Type 0
AloneAllFree =
    (turns : List ℕ) (views : List View) (i : ℕ) (v : View) → IsSeat views i v → ((j : ℕ) (u : View) → IsSeat views j u → j ≡ i) → v.own.turns ≡ []
    → HeldPart turns views → (slot x : ℕ) → get_elem? turns slot ≡ some x → x ≡ 0
