-- Each legal step keeps what holds in each list.
use Rattle.std.proofs.Common.{◌≡◌, ℕ, zero, suc, ◌+◌, ◌<◌, Bool, true, false, true≢false, not, List, [], ◌∷◌, ◌++◌, length, map, filter, set, Some, None, Option, refl, sym, ap, ap₂, ◌∙◌, subst, subst₂, arith, inl, inr}
use Rattle.std.specs.Prelude.{◌&&◌, ◌==◌, is_none, is_some, if◌then◌else◌, slice_get, slice_index}
use Rattle.std.proofs.lemmas.Bool.{cases_Bool}
use Rattle.std.proofs.lemmas.Option.{none-some, same_Some}
use Rattle.std.proofs.lemmas.List.{append-nil, length-set}
use mathlib.Core.Option.{some}
use lib.ListN.{get_elem?}
use Rattle.xf_types.specs.declared.call.Receipt.{Receipt}
use Rattle.xf_types.specs.declared.state.Sa.{Sa}
use Rattle.xf_types.specs.Machine.{Machine}
use Rattle.xf_types.specs.Moves.{is_moving}
use Rattle.xf_late.specs.Rests.{rests_on}
use Rattle.xf_views.specs.declared.entry.Entry.{Entry}
use Rattle.xf_views.specs.declared.view.View.{View}
use Rattle.xf_views.specs.Hands.{is_same, hand_after_generation}
use Rattle.xf_views.specs.Log.{Numbers, mark, receipt, receipts_of, moves}
use Rattle.xf_views.specs.Views.{tried_turn, view_after_ticket, view_after_serving, view_after_begin, view_after_store, view_after_draw, view_after_trial, view_after_finish, view_after_leave, view_after_generation, view_after_load, view_after_pin, view_after_load_pin, view_after_take, view_after_miss, view_after_give}
use Rattle.xf_views.specs.TurnPart.{IsInTurn, TurnPart}
use Rattle.xf_views.proofs.Logs.{receipts-append}
use Rattle.xf_views.proofs.Tickets.{ticket_keeps, serving_keeps, leave_keeps}
use Rattle.xf_views.proofs.Openings.{begin_keeps, finish_keeps}
use Rattle.xf_views.proofs.Draws.{move_keeps, still_keeps, trial_keeps}
use Rattle.xf_views.proofs.Generations.{look_keeps, settle_keeps}
use Rattle.xf_views.proofs.Quiet.{store_keeps, load_keeps, pin_keeps, load_pin_keeps, take_keeps, give_keeps, miss_keeps}
use Rattle.xf_ownpart.specs.OwnPart.{listed_at}
use Rattle.xf_ownpart.specs.Turns.{touched_turn, moved_turn}
use Rattle.xf_proto.specs.declared.step.Kind.{Kind}
use Rattle.xf_proto.specs.declared.step.Kind.TheVariants as kind
use Rattle.xf_proto.specs.SeatState.{SeatState}
use Rattle.xf_proto.specs.ProtocolState.{ProtocolState}
use Rattle.xf_proto.specs.Legality.{is_by_move, is_by_trial, began_even, may_step}
use Rattle.xf_proto.specs.Effects.{placed, settled_with, with_seat, pin_after, pin_of, drawn_later, drawn_now, taken_by}
use Rattle.xf_runs.specs.Known.{Known, waits, machine_now, stands, ends, takes, known_after}
use Rattle.xf_runs.specs.Holds.{slot_of, FitsSeat, AreSeats, IsTold, AlwaysHolds}
use Rattle.xf_runs.proofs.Flags.{both, off, none-is}
use Rattle.xf_runs.proofs.Lookups.{map-slots, give-slots, seats-set}
use Rattle.xf_runs.proofs.Placed.{placed-there}
use Rattle.xf_runs.proofs.Ways.{ByTrial, ByMove, ByTurn, BySlot, Way, MayDraw, may-draw, by-trial, by-move, by-turn, by-slot}

-- a seat with this hand
abbrev pub seated : View → Option Receipt → SeatState
seated v o = record { hand = v.hand; pending = o }

-- a receipt without its number and worker
abbrev pub entry_of : Receipt → Entry
entry_of r = record { at = r.at; call = r.call; reply = r.reply }

pub from-entry : (r : Receipt) (n k : ℕ) → r.number ≡ n → r.worker ≡ k → r ≡ receipt n k (entry_of r)
from-entry r n k number worker = ap₂ (λ (x y : ℕ). receipt x y (entry_of r)) number worker

module _ (lists : List ℕ → ℕ → Option (Sa × ℕ)) (start : Machine) (made : ℕ) (k : Known) (h : AlwaysHolds made k) (i : ℕ) (v : View) (o : Option Receipt)
    (at : get_elem? k.views i ≡ some v) (f : FitsSeat i (seated v o) v) where
  abbrev pub p : ProtocolState
  p = k.state

  abbrev pub n : Numbers
  n = p.numbers

  abbrev pub Next : Kind → Type 0
  Next j = AlwaysHolds made (known_after lists start k i v (seated v o) j)

  -- the seat may draw once more
  pub turn : TurnPart (p.steps + 1) made n k.owners k.log k.views
  turn = record {
    few = h.turn.few;
    tickets = h.turn.tickets;
    draws = h.turn.draws;
    served = h.turn.served;
    owners_made = h.turn.owners_made;
    marks_made = h.turn.marks_made;
    low = λ j. let l = h.turn.low j in omega arith;
    numbered = h.turn.numbered;
    one_seat = h.turn.one_seat;
    even = h.turn.even;
    odd = h.turn.odd;
    longest = h.turn.longest;
    each = h.turn.each;
  }

  pub mine : IsInTurn made n k.owners k.log v
  mine = h.turn.each i v at f.here

  room : v.knows.count < p.steps + 1
  room = let c = mine.count in let l = h.turn.low v.worker in omega arith

  told_row : (z : Known) (w : View) (u : Option Receipt) → z.state.seats ≡ set p.seats i (seated w u) → z.views ≡ set k.views i w → FitsSeat i (seated w u) w
      → z.state.receipts ≡ receipts_of z.log → IsTold made z
  told_row z w u seats views fits receipts = record {
    seats = subst₂ (λ (a : List SeatState) (b : List View). AreSeats a b) (sym seats) (sym views) (seats-set p.seats k.views i (seated w u) v w h.told.seats at fits);
    count = ap length seats ∙ length-set p.seats i (seated w u) ∙ h.told.count;
    receipts = receipts;
  }

  quiet_fits : (w : View) → w.here ≡ v.here → w.worker ≡ v.worker → w.own.turns ≡ v.own.turns → w.hand.slots ≡ v.hand.slots → w.hand.trial ≡ v.hand.trial → FitsSeat i (seated w o) w
  quiet_fits w here worker turns slots trial = record {
    here = here ∙ f.here;
    named = worker ∙ f.named;
    known = refl;
    held = ap (map slot_of) turns ∙ f.held ∙ sym slots;
    waiting = λ r e. let t = f.waiting r e in (trial ∙ t.0, t.1, t.2);
  }

  -- a step that changes neither the turns that the seat holds, nor its trial, nor the receipts
  quiet : (z : Known) (w : View) → z.state.seats ≡ set p.seats i (seated w o) → z.views ≡ set k.views i w → FitsSeat i (seated w o) w
      → z.state.receipts ≡ p.receipts → z.log ≡ k.log → IsTold made z
  quiet z w seats views fits receipts log = told_row z w o seats views fits (receipts ∙ h.told.receipts ∙ ap receipts_of (sym log))

  ticket : may_step p i v.hand kind.Ticket ≡ true → Next kind.Ticket
  ticket legal = let w = view_after_ticket v n.ticket in record {
    turn = ticket_keeps (p.steps + 1) made n k.owners k.log k.views turn i v at f.here (none-is v.hand.ticket legal) room;
    told = quiet (known_after lists start k i v (seated v o) kind.Ticket) w refl refl (quiet_fits w refl refl refl refl refl) refl refl;
  }

  serving : may_step p i v.hand kind.Serving ≡ true → Next kind.Serving
  serving legal = let w = view_after_serving v n.serving p.words in record {
    turn = serving_keeps (p.steps + 1) made n k.owners k.log k.views turn i v at f.here p.words (off v.hand.has_turn (both (is_some v.hand.ticket) (not v.hand.has_turn) legal).1);
    told = quiet (known_after lists start k i v (seated v o) kind.Serving) w refl refl (quiet_fits w refl refl refl refl refl) refl refl;
  }

  begins : may_step p i v.hand kind.Begin ≡ true → Next kind.Begin
  begins legal = let w = view_after_begin v in let l = both v.hand.has_turn (not v.hand.writing) legal in record {
    turn = begin_keeps (p.steps + 1) made n k.owners k.log k.views turn i v at f.here l.0 (off v.hand.writing l.1);
    told = quiet (known_after lists start k i v (seated v o) kind.Begin) w refl refl (quiet_fits w refl refl refl refl refl) refl refl;
  }

  finish : may_step p i v.hand kind.Finish ≡ true → Next kind.Finish
  finish legal = let w = view_after_finish v in let l = both v.hand.writing v.hand.drawn legal in record {
    turn = finish_keeps (p.steps + 1) made n k.owners k.log k.views turn i v at f.here l.0 l.1;
    told = quiet (known_after lists start k i v (seated v o) kind.Finish) w refl refl (quiet_fits w refl refl refl refl refl) refl refl;
  }

  leave : may_step p i v.hand kind.Leave ≡ true → Next kind.Leave
  leave legal = let w = view_after_leave v in let l = both v.hand.has_turn (not v.hand.writing) legal in record {
    turn = leave_keeps (p.steps + 1) made n k.owners k.log k.views turn i v at f.here l.0 (off v.hand.writing l.1);
    told = quiet (known_after lists start k i v (seated v o) kind.Leave) w refl refl (quiet_fits w refl refl refl refl refl) refl refl;
  }

  store : (place value : ℕ) → Next (kind.Store place value)
  store place value = let w = view_after_store (length p.turns) v place value in record {
    turn = store_keeps (p.steps + 1) made n k.owners k.log k.views turn i v at f.here (length p.turns) place value;
    told = quiet (known_after lists start k i v (seated v o) (kind.Store place value)) w refl refl (quiet_fits w refl refl refl refl refl) refl refl;
  }

  load_word : (place : ℕ) → Next (kind.LoadWord place)
  load_word place = let w = view_after_load v place (slice_index p.words place) in record {
    turn = load_keeps (p.steps + 1) made n k.owners k.log k.views turn i v at f.here place (slice_index p.words place);
    told = quiet (known_after lists start k i v (seated v o) (kind.LoadWord place)) w refl refl (quiet_fits w refl refl refl refl refl) refl refl;
  }

  pin : Next kind.Pin
  pin = let w = view_after_pin v (pin_after v.hand.began) in record {
    turn = pin_keeps (p.steps + 1) made n k.owners k.log k.views turn i v at f.here (pin_after v.hand.began);
    told = quiet (known_after lists start k i v (seated v o) kind.Pin) w refl refl (quiet_fits w refl refl refl refl refl) refl refl;
  }

  unpin : Next kind.Unpin
  unpin = let w = view_after_pin v 0 in record {
    turn = pin_keeps (p.steps + 1) made n k.owners k.log k.views turn i v at f.here 0;
    told = quiet (known_after lists start k i v (seated v o) kind.Unpin) w refl refl (quiet_fits w refl refl refl refl refl) refl refl;
  }

  load_pin : (seat : ℕ) → Next (kind.LoadPin seat)
  load_pin seat = let word = pin_of (slice_get p.seats seat) in let w = view_after_load_pin v seat word in record {
    turn = load_pin_keeps (p.steps + 1) made n k.owners k.log k.views turn i v at f.here seat word;
    told = quiet (known_after lists start k i v (seated v o) (kind.LoadPin seat)) w refl refl (quiet_fits w refl refl refl refl refl) refl refl;
  }

  take_turn : (slot : ℕ) → Next (kind.TakeTurn slot)
  take_turn slot = by (slice_index p.turns slot)
    where
      by : (word : ℕ) → AlwaysHolds made (record (takes lists start k i v slot word) { state = taken_by p i (seated v o) slot word })
      by zero = let listed = listed_at lists (machine_now lists start k) k.settled slot in let w = view_after_take v slot listed in record {
        turn = take_keeps (p.steps + 1) made n k.owners k.log k.views turn i v at f.here slot listed;
        told = quiet (record (takes lists start k i v slot zero) { state = taken_by p i (seated v o) slot zero }) w refl refl
            record { here = f.here; named = f.named; known = refl; held = ap (λ (l : List ℕ). slot ∷ l) f.held; waiting = f.waiting } refl refl;
      }
      by (suc other) = let w = view_after_miss v in record {
        turn = miss_keeps (p.steps + 1) made n k.owners k.log k.views turn i v at f.here;
        told = quiet (record (takes lists start k i v slot (suc other)) { state = taken_by p i (seated v o) slot (suc other) }) w refl refl (quiet_fits w refl refl refl refl refl) refl refl;
      }

  give_turn : (slot : ℕ) → Next (kind.GiveTurn slot)
  give_turn slot = let w = view_after_give v slot in record {
    turn = give_keeps (p.steps + 1) made n k.owners k.log k.views turn i v at f.here slot;
    told = quiet (known_after lists start k i v (seated v o) (kind.GiveTurn slot)) w refl refl
        record { here = f.here; named = f.named; known = refl; held = give-slots slot v.own.turns ∙ ap (filter (λ (j : ℕ). not (j == slot))) f.held; waiting = f.waiting } refl refl;
  }

  -- a draw that waits
  pub wait : (u : Option Receipt) → v.hand.has_turn ≡ false → v.hand.trial ≡ None
      → ((r : Receipt) → u ≡ Some r → (r.number ≡ n.draw) × (r.worker ≡ i) × (is_moving r.reply ≡ false))
      → AlwaysHolds made (record (waits k i v) { state = drawn_later p i (seated v o) u })
  wait u without none pending = let w = view_after_trial v n.draw (moves k.log) in record {
    turn = trial_keeps (p.steps + 1) made n k.owners k.log k.views turn i v at f.here without none room;
    told = told_row (record (waits k i v) { state = drawn_later p i (seated v o) u }) w u refl refl
        record {
          here = f.here;
          named = f.named;
          known = refl;
          held = map-slots tried_turn (λ e. refl) v.own.turns ∙ f.held;
          waiting = λ r e. let t = pending r e in (ap Some (sym t.0), t.1, t.2);
        }
        (h.told.receipts ∙ sym (receipts-append k.log (mark v.worker None None) ∙ append-nil (receipts_of k.log)));
  }

  -- the state after a draw whose receipt stands at once
  abbrev pub Drawn : Receipt → Bool → Known
  Drawn r moves = record (stands lists start k i v r moves) { state = drawn_now p i (seated v o) r moves }

  abbrev rest_of : Receipt → Option ℕ
  rest_of r = rests_on (machine_now lists start k).shown r

  pub move : (e : Entry) → v.hand.has_turn ≡ true → v.hand.writing ≡ true → v.hand.drawn ≡ false → v.hand.trial ≡ None → is_moving e.reply ≡ true
      → AlwaysHolds made (Drawn (receipt n.draw v.worker e) true)
  move e has open_now yet none moving =
      let r = receipt n.draw v.worker e in
      let turns = map (moved_turn lists v.image.words (rest_of r) r.call) v.own.turns in
      let w = view_after_draw v true (moves k.log ++ r ∷ []) r turns in
      record {
        turn = move_keeps (p.steps + 1) made n k.owners k.log k.views turn i v at f.here (rest_of r) e turns has open_now yet none room moving;
        told = told_row (Drawn r true) w o refl refl
            record { here = f.here; named = f.named; known = refl; held = map-slots (moved_turn lists v.image.words (rest_of r) r.call) (λ t. refl) v.own.turns ∙ f.held; waiting = f.waiting }
            (ap (λ (l : List Receipt). l ++ r ∷ []) h.told.receipts ∙ sym (receipts-append k.log (mark v.worker (rest_of r) (Some r))));
      }

  pub still : (e : Entry) → v.hand.writing ≡ false → v.hand.trial ≡ None → is_moving e.reply ≡ false → AlwaysHolds made (Drawn (receipt n.draw v.worker e) false)
  still e shut none stays =
      let r = receipt n.draw v.worker e in
      let turns = map (touched_turn (rest_of r) r.call) v.own.turns in
      let w = view_after_draw v false (moves k.log) r turns in
      record {
        turn = still_keeps (p.steps + 1) made n k.owners k.log k.views turn i v at f.here (rest_of r) e turns shut none room stays;
        told = told_row (Drawn r false) w o refl refl
            record { here = f.here; named = f.named; known = refl; held = map-slots (touched_turn (rest_of r) r.call) (λ t. refl) v.own.turns ∙ f.held; waiting = f.waiting }
            (ap (λ (l : List Receipt). l ++ r ∷ []) h.told.receipts ∙ sym (receipts-append k.log (mark v.worker (rest_of r) (Some r))));
      }

  -- a seat without the turn isn't open
  pub shut-without : v.hand.has_turn ≡ false → v.hand.writing ≡ false
  shut-without without = elim (cases_Bool v.hand.writing) [
    | inl is ↦ absurd (true≢false (sym (mine.writes is).0 ∙ without))
    | inr not_open ↦ not_open
  ]

  -- after any draw with a receipt
  abbrev pub DrawnBy : Receipt → Bool → Bool → Known
  DrawnBy r trial moves = record (if trial then waits k i v else stands lists start k i v r moves) { state = if trial then drawn_later p i (seated v o) (Some r) else drawn_now p i (seated v o) r moves }

  draw_none : may_step p i v.hand (kind.Draw None) ≡ true → Next (kind.Draw None)
  draw_none legal =
      let l = both (not v.hand.has_turn && is_none v.hand.trial) (began_even v.hand.began) legal in
      let m = both (not v.hand.has_turn) (is_none v.hand.trial) l.0 in
      wait None (off v.hand.has_turn m.0) (none-is v.hand.trial m.1) (λ r e. absurd (none-some r e))

  draw_some : (r : Receipt) → may_step p i v.hand (kind.Draw (Some r)) ≡ true → Next (kind.Draw (Some r))
  draw_some r legal = by m.way
    where
      m : MayDraw n.draw i v.hand r
      m = may-draw n.draw i v.hand r legal

      is : r ≡ receipt n.draw v.worker (entry_of r)
      is = from-entry r n.draw v.worker m.number (m.worker ∙ sym f.named)

      by : Way v.hand r → AlwaysHolds made (DrawnBy r (is_by_trial v.hand r) (is_by_move v.hand r))
      by (ByTrial a) =
          let t = by-trial v.hand r a in
          subst (λ (b : Bool). AlwaysHolds made (DrawnBy r b (is_by_move v.hand r))) (sym a)
          (wait (Some r) t.0 m.none (λ q e. subst (λ (z : Receipt). (z.number ≡ n.draw) × (z.worker ≡ i) × (is_moving z.reply ≡ false)) (same_Some r q e) (m.number, m.worker, t.1)))
      by (ByMove a b) =
          let t = by-move v.hand r b in
          subst₂ (λ (c d : Bool). AlwaysHolds made (DrawnBy r c d)) (sym a) (sym b)
          (subst (λ (q : Receipt). AlwaysHolds made (Drawn q true)) (sym is) (move (entry_of r) t.0 t.1 t.2 m.none t.3))
      by (ByTurn a b c) =
          let t = by-turn v.hand r c in
          subst₂ (λ (c d : Bool). AlwaysHolds made (DrawnBy r c d)) (sym a) (sym b)
          (subst (λ (q : Receipt). AlwaysHolds made (Drawn q false)) (sym is) (still (entry_of r) t.1 m.none t.2))
      by (BySlot a b c) =
          let t = by-slot v.hand r c in
          subst₂ (λ (c d : Bool). AlwaysHolds made (DrawnBy r c d)) (sym a) (sym b)
          (subst (λ (q : Receipt). AlwaysHolds made (Drawn q false)) (sym is) (still (entry_of r) (shut-without t.0) m.none t.1))

  -- a read ends
  abbrev pub Ended : Bool → Option Receipt → Known
  Ended same u = record (ends lists start k i v same u) { state = record (with_seat p i (hand_after_generation v.hand n.generation) None) { receipts = settled_with same u p.receipts } }

  abbrev pub Settled : Receipt → Known
  Settled r = Ended true (Some r)

  abbrev pub Looked : Known
  Looked = Ended true None

  pub look : AlwaysHolds made Looked
  look = let w = view_after_generation v n.generation (moves k.log) [] v.own.turns in record {
    turn = look_keeps (p.steps + 1) made n k.owners k.log k.views turn i v at f.here v.own.turns;
    told = told_row Looked w None refl refl
        record { here = f.here; named = f.named; known = refl; held = f.held; waiting = λ r e. absurd (none-some r e) }
        h.told.receipts;
  }

  pub settle : (x : ℕ) (e : Entry) → v.hand.trial ≡ Some x → is_moving e.reply ≡ false → AlwaysHolds made (Settled (receipt x v.worker e))
  settle x e trial stays =
      let r = receipt x v.worker e in
      let turns = map (touched_turn (rest_of r) r.call) v.own.turns in
      let w = view_after_generation v n.generation (moves k.log) (r ∷ []) turns in
      record {
        turn = settle_keeps (p.steps + 1) made n k.owners k.log k.views turn i v at f.here x (rest_of r) e turns trial stays;
        told = told_row (Settled r) w None refl refl
            record { here = f.here; named = f.named; known = refl; held = map-slots (touched_turn (rest_of r) r.call) (λ t. refl) v.own.turns ∙ f.held; waiting = λ q e. absurd (none-some q e) }
            (ap (placed r) h.told.receipts ∙ placed-there r k.log x v.worker (rest_of r) (λ y m q there got. (h.turn.numbered y m q there got).0) (mine.trial x trial).0 refl);
      }

  load_generation : Next kind.LoadGeneration
  load_generation = by (is_same v.hand.began n.generation) o refl
    where
      by : (same : Bool) (u : Option Receipt) → o ≡ u → AlwaysHolds made (Ended same u)
      by true None e = look
      by true (Some r) e =
          let t = f.waiting r e in
          subst (λ (q : Receipt). AlwaysHolds made (Settled q)) (sym (from-entry r r.number v.worker refl (t.1 ∙ sym f.named))) (settle r.number (entry_of r) t.0 t.2)
      by false u e = look

  pub step_keeps : (j : Kind) → may_step p i v.hand j ≡ true → Next j
  step_keeps kind.Ticket legal = ticket legal
  step_keeps kind.Serving legal = serving legal
  step_keeps kind.Begin legal = begins legal
  step_keeps (kind.Store place value) legal = store place value
  step_keeps (kind.Draw None) legal = draw_none legal
  step_keeps (kind.Draw (Some r)) legal = draw_some r legal
  step_keeps kind.Finish legal = finish legal
  step_keeps kind.Leave legal = leave legal
  step_keeps kind.LoadGeneration legal = load_generation
  step_keeps (kind.LoadWord place) legal = load_word place
  step_keeps kind.Pin legal = pin
  step_keeps kind.Unpin legal = unpin
  step_keeps (kind.LoadPin seat) legal = load_pin seat
  step_keeps (kind.TakeTurn slot) legal = take_turn slot
  step_keeps (kind.GiveTurn slot) legal = give_turn slot
