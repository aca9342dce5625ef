-- What holds between any two steps of a list: in each list, and in each honest one.
use Rattle.std.specs.Prelude.{◌≡◌, ℕ, ◌+◌, ◌≤◌, true, false, List, map, length, Option, Some, slice_get}
use mathlib.Core.Option.{some}
use lib.ListN.{get_elem?}
use Rattle.xf_types.specs.declared.call.Receipt.{Receipt}
use Rattle.xf_types.specs.declared.state.Sa.{Sa}
use Rattle.xf_types.specs.Machine.{Machine}
use Rattle.xf_types.specs.Moves.{is_moving}
use Rattle.xf_types.specs.History.{IsLegalHistory, machine_of}
use Rattle.xf_types.specs.Standing.{Standing}
use Rattle.xf_views.specs.declared.view.View.{View}
use Rattle.xf_views.specs.declared.view.SlotTurn.{SlotTurn}
use Rattle.xf_views.specs.Log.{Mark, receipts_of}
use Rattle.xf_views.specs.TurnPart.{TurnPart}
use Rattle.xf_invariant.specs.Meaning.{Told}
use Rattle.xf_invariant.specs.ImagePart.{ImagePart}
use Rattle.xf_invariant.specs.PinPart.{PinPart}
use Rattle.xf_ownpart.specs.OwnPart.{OwnPart, listed_at, standing_of}
use Rattle.xf_retired.specs.RetiredLaws.{RetiredPart}
use Rattle.xf_stale.specs.StalePart.{StalePart}
use Rattle.xf_legalpart.specs.AgainPart.{AgainPart}
use Rattle.xf_proto.specs.SeatState.{SeatState}
use Rattle.xf_runs.specs.Known.{Known}

-- the slot of a turn that is held
abbrev pub slot_of : SlotTurn → ℕ
slot_of e = e.slot

-- seat i in the state, and as it knows itself: its hand is the one that it knows, and its pending receipt has the number of its trial,
-- is its own and doesn't move
pub record FitsSeat (i : ℕ) (s : SeatState) (v : View) : Type 0 where
  pub here : v.here ≡ true
  pub named : v.worker ≡ i
  pub known : s.hand ≡ v.hand
  pub held : map slot_of v.own.turns ≡ v.hand.slots
  pub waiting : (r : Receipt) → s.pending ≡ Some r → (v.hand.trial ≡ Some r.number) × (r.worker ≡ i) × (is_moving r.reply ≡ false)

-- each seat of the state knows itself
abbrev pub AreSeats : List SeatState → List View → Type 0
AreSeats seats views =
    (i : ℕ) (s : SeatState) → slice_get seats i ≡ Some s → (v : View) × (get_elem? views i ≡ some v) × FitsSeat i s v

-- the state is the one that is known: so are its seats, and its receipts are those of the log
pub record IsTold (made : ℕ) (k : Known) : Type 0 where
  pub seats : AreSeats k.state.seats k.views
  pub count : length k.state.seats ≡ made
  pub receipts : k.state.receipts ≡ receipts_of k.log

-- in each list: the turn part holds, no seat drew more often than steps were made, and the state is the one that is known
pub record AlwaysHolds (made : ℕ) (k : Known) : Type 0 where
  pub turn : TurnPart k.state.steps made k.state.numbers k.owners k.log k.views
  pub told : IsTold made k

-- the values at home stand for what the settled image lists, with the own parts after all receipts
abbrev pub at_home : (List ℕ → ℕ → Option (Sa × ℕ)) → Machine → List Mark → List ℕ → ℕ → Standing
at_home lists start log settled slot = standing_of (listed_at lists (machine_of start (receipts_of log)) settled slot)

-- in each honest list: all parts hold, and the receipts are a legal history
pub record HonestHolds (bucket_of : Sa → ℕ) (good : List ℕ → Told → Type 0) (lists : List ℕ → ℕ → Option (Sa × ℕ)) (id_place : ℕ → ℕ) (policies states made : ℕ) (base : List ℕ) (start : Machine) (k : Known) : Type 0 where
  pub always : AlwaysHolds made k
  pub image : ImagePart bucket_of good base k.state.numbers.generation k.log k.state.words k.settled k.views
  pub pinned : PinPart policies (policies + states) id_place k.state.numbers.generation k.state.words k.settled k.pins k.views
  pub own : OwnPart lists start k.settled k.state.turns k.log (at_home lists start k.log k.settled) k.views
  pub legal : IsLegalHistory start (receipts_of k.log)
  pub again : AgainPart k.state.numbers.generation k.log k.views
  pub retired : RetiredPart policies states start k.log k.settled
  pub stale : StalePart lists id_place policies states start k.log k.settled k.views
  pub slots : length k.state.turns ≡ policies + states
  pub words : policies + states ≤ length k.state.words
