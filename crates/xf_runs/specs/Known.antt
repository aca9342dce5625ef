-- A state of the protocol with what all its seats know and the history behind it, and what each step makes of it.
use Rattle.std.specs.Prelude.{◌≡◌, ℕ, zero, suc, ◌+◌, Bool, true, false, if◌then◌else◌, List, [], ◌∷◌, ◌++◌, map, set, replicate, length, Option, Some, None, slice_index, slice_get}
use mathlib.Core.Option.{some}
use lib.ListN.{get_elem?}
use Rattle.xf_types.specs.declared.call.Receipt.{Receipt}
use Rattle.xf_types.specs.declared.state.Sa.{Sa}
use Rattle.xf_types.specs.Machine.{Machine}
use Rattle.xf_types.specs.History.{machine_of}
use Rattle.xf_types.specs.Standing.{Nothing}
use Rattle.xf_late.specs.Rests.{rests_on}
use Rattle.xf_views.specs.declared.view.View.{View}
use Rattle.xf_views.specs.declared.view.Start.{Start}
use Rattle.xf_views.specs.Hands.{is_same}
use Rattle.xf_views.specs.Log.{Mark, mark, receipts_of, moves}
use Rattle.xf_views.specs.Starts.{first_views}
use Rattle.xf_views.specs.Views.{view_after_ticket, view_after_serving, view_after_begin, view_after_store, view_after_draw, view_after_trial, view_after_finish, view_after_leave, view_after_generation, view_after_load, view_after_pin, view_after_load_pin, view_after_take, view_after_miss, view_after_give}
use Rattle.xf_ownpart.specs.OwnPart.{listed_at}
use Rattle.xf_ownpart.specs.Turns.{touched_turn, moved_turn}
use Rattle.xf_proto.specs.declared.step.Kind.{Kind}
use Rattle.xf_proto.specs.declared.step.Kind.TheVariants as kind
use Rattle.xf_proto.specs.declared.step.Step.{Step}
use Rattle.xf_proto.specs.SeatState.{SeatState}
use Rattle.xf_proto.specs.ProtocolState.{ProtocolState, first_state}
use Rattle.xf_proto.specs.Legality.{is_by_move, is_by_trial}
use Rattle.xf_proto.specs.Effects.{pin_after, pin_of, state_after}

-- the state; what each seat knows; who drew each ticket; what stands at each number of the draw word; the settled image; and the pin
-- words
pub record Known : Type 0 where
  pub state : ProtocolState
  pub views : List View
  pub owners : List ℕ
  pub log : List Mark
  pub settled : List ℕ
  pub pins : List ℕ

-- so many seats, words, and slots of policies and of states at the beginning
abbrev pub first_start : ℕ → ℕ → ℕ → ℕ → Start
first_start seats words policies states =
    record { seats = seats; policies = policies; states = states; words = replicate words 0; homes = replicate (policies + states) Nothing }

-- what is known at the beginning, with this start in each view
abbrev pub first_known : ℕ → ℕ → ℕ → Start → Known
first_known seats words slots start =
    record {
      state = first_state seats words slots;
      views = first_views start seats;
      owners = [];
      log = [];
      settled = replicate words 0;
      pins = replicate seats 0;
    }

-- seat i knows this now
abbrev pub sees : Known → ℕ → View → Known
sees k i v = record k { views = set k.views i v }

-- a draw of seat i that waits for the end of its read
abbrev pub waits : Known → ℕ → View → Known
waits k i v =
    record k {
      views = set k.views i (view_after_trial v k.state.numbers.draw (moves k.log));
      log = k.log ++ mark v.worker None None ∷ [];
    }

-- a read of seat i ends, and no receipt comes to stand
abbrev pub looks : Known → ℕ → View → Known
looks k i v = sees k i (view_after_generation v k.state.numbers.generation (moves k.log) [] v.own.turns)

module _ (lists : List ℕ → ℕ → Option (Sa × ℕ)) (start : Machine) where
  -- the machine after the receipts that stand
  abbrev pub machine_now : Known → Machine
  machine_now k = machine_of start (receipts_of k.log)

  -- a draw of seat i whose receipt stands at once. By a move the image is the settled one
  abbrev pub stands : Known → ℕ → View → Receipt → Bool → Known
  stands k i v r true =
      let one = rests_on (machine_now k).shown r in
      record k {
        views = set k.views i (view_after_draw v true (moves k.log ++ r ∷ []) r (map (moved_turn lists v.image.words one r.call) v.own.turns));
        log = k.log ++ mark v.worker one (Some r) ∷ [];
        settled = k.state.words;
      }
  stands k i v r false =
      let one = rests_on (machine_now k).shown r in
      record k {
        views = set k.views i (view_after_draw v false (moves k.log) r (map (touched_turn one r.call) v.own.turns));
        log = k.log ++ mark v.worker one (Some r) ∷ [];
      }

  abbrev pub draws : Known → ℕ → View → Option Receipt → Known
  draws k i v None = waits k i v
  draws k i v (Some r) = if is_by_trial v.hand r then waits k i v else stands k i v r (is_by_move v.hand r)

  -- a read of seat i ends, and the receipt of its trial comes to stand at its number
  abbrev pub settles : Known → ℕ → View → Receipt → Known
  settles k i v r =
      let one = rests_on (machine_now k).shown r in
      record k {
        views = set k.views i (view_after_generation v k.state.numbers.generation (moves k.log) (r ∷ []) (map (touched_turn one r.call) v.own.turns));
        log = set k.log r.number (mark v.worker one (Some r));
      }

  -- it does where the read ends the same
  abbrev pub ends : Known → ℕ → View → Bool → Option Receipt → Known
  ends k i v true (Some r) = settles k i v r
  ends k i v true None = looks k i v
  ends k i v false pending = looks k i v

  -- a slot's turn is taken where it is free: from then on it is known what is listed there
  abbrev pub takes : Known → ℕ → View → ℕ → ℕ → Known
  takes k i v slot zero = sees k i (view_after_take v slot (listed_at lists (machine_now k) k.settled slot))
  takes k i v slot (suc other) = sees k i (view_after_miss v)

  -- what a legal step of seat i adds to what is known
  abbrev pub learns : Known → ℕ → View → SeatState → Kind → Known
  learns k i v s kind.Ticket = record k { views = set k.views i (view_after_ticket v k.state.numbers.ticket); owners = k.owners ++ v.worker ∷ [] }
  learns k i v s kind.Serving = sees k i (view_after_serving v k.state.numbers.serving k.state.words)
  learns k i v s kind.Begin = sees k i (view_after_begin v)
  learns k i v s (kind.Store place value) = sees k i (view_after_store (length k.state.turns) v place value)
  learns k i v s (kind.Draw receipt) = draws k i v receipt
  learns k i v s kind.Finish = sees k i (view_after_finish v)
  learns k i v s kind.Leave = sees k i (view_after_leave v)
  learns k i v s kind.LoadGeneration = ends k i v (is_same v.hand.began k.state.numbers.generation) s.pending
  learns k i v s (kind.LoadWord place) = sees k i (view_after_load v place (slice_index k.state.words place))
  learns k i v s kind.Pin =
      let pin = pin_after v.hand.began in
      record k { views = set k.views i (view_after_pin v pin); pins = set k.pins v.worker pin }
  learns k i v s kind.Unpin = record k { views = set k.views i (view_after_pin v 0); pins = set k.pins v.worker 0 }
  learns k i v s (kind.LoadPin seat) = sees k i (view_after_load_pin v seat (pin_of (slice_get k.state.seats seat)))
  learns k i v s (kind.TakeTurn slot) = takes k i v slot (slice_index k.state.turns slot)
  learns k i v s (kind.GiveTurn slot) = sees k i (view_after_give v slot)

  -- after a legal step of seat i
  abbrev pub known_after : Known → ℕ → View → SeatState → Kind → Known
  known_after k i v s j = record (learns k i v s j) { state = state_after k.state i s j }

  -- the steps of a list make this of what is known
  abbrev pub LearnTo : Known → List Step → Known → Type 0
  LearnTo k [] z = k ≡ z
  LearnTo k (step ∷ steps) z =
      (v : View) × (s : SeatState) × (get_elem? k.views step.actor ≡ some v) × (slice_get k.state.seats step.actor ≡ Some s)
      × LearnTo (known_after k step.actor v s step.kind) steps z
