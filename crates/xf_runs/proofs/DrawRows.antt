-- An honest draw keeps all parts.
use Rattle.std.proofs.Common.{◌≡◌, ℕ, ◌+◌, Bool, true, false, not, List, [], ◌∷◌, ◌++◌, map, set, Some, None, Option, sym, ap, ◌∙◌, subst, subst₂, arith, lt-ltb}
use Rattle.std.specs.Prelude.{◌&&◌, is_none, if◌then◌else◌, slice_index}
use Rattle.std.proofs.lemmas.Option.{none-some, same_Some}
use Rattle.xf_types.specs.declared.call.Receipt.{Receipt}
use Rattle.xf_types.specs.Machine.{Machine}
use Rattle.xf_types.specs.Moves.{is_moving}
use Rattle.xf_types.specs.History.{is_exception}
use Rattle.xf_late.specs.Rests.{rests_on}
use Rattle.xf_late.proofs.Owns.{rests-none}
use Rattle.xf_views.specs.declared.entry.Entry.{Entry}
use Rattle.xf_views.specs.declared.view.SlotTurn.{SlotTurn}
use Rattle.xf_views.specs.Log.{Numbers, mark, receipt, moves}
use Rattle.xf_views.specs.Views.{view_after_draw, view_after_trial}
use Rattle.xf_invariant.proofs.ImageDraws.{move_keeps_image, still_keeps_image, trial_keeps_image}
use Rattle.xf_invariant.proofs.PinRest.{move_keeps_pins, still_keeps_pins, try_keeps_pins}
use Rattle.xf_ownpart.specs.Turns.{IsCovered, touched_turn, moved_turn}
use Rattle.xf_ownpart.proofs.Slots.{nothing}
use Rattle.xf_ownpart.proofs.OwnMoves.{move_keeps_own}
use Rattle.xf_ownpart.proofs.OwnDraws.{still_keeps_own, trial_keeps_own}
use Rattle.xf_retired.proofs.Rows.{move_keeps as move_keeps_retired, still_keeps as still_keeps_retired, waits_keeps as waits_keeps_retired}
use Rattle.xf_retired.proofs.Fulls.{full_is_legal}
use Rattle.xf_stale.proofs.Stale.{held_gone, still_keeps as still_keeps_stale, trial_keeps as trial_keeps_stale, move_keeps as move_keeps_stale}
use Rattle.xf_legalpart.specs.AgainPart.{AgainPart}
use Rattle.xf_legalpart.specs.Honest.{IsStale}
use Rattle.xf_legalpart.specs.HonestLaws.{MayStand}
use Rattle.xf_legalpart.proofs.AgainRows.{stands_keeps_again, waits_keeps_again}
use Rattle.xf_legalpart.proofs.GivenUp.{still_gives_up}
use Rattle.xf_legalpart.proofs.Legal.{stands_keeps_legal, waits_keeps_legal}
use Rattle.xf_legalpart.proofs.Honesty.{move_is_legal, still_is_legal, send_is_legal, want_is_legal}
use Rattle.xf_proto.specs.declared.step.Kind.{Kind}
use Rattle.xf_proto.specs.declared.step.Kind.TheVariants as kind
use Rattle.xf_proto.specs.ProtocolState.{ProtocolState}
use Rattle.xf_proto.specs.Legality.{is_by_move, is_by_trial, began_even, may_step}
use Rattle.xf_proto.specs.Effects.{drawn_later, drawn_now}
use Rattle.xf_runs.specs.Known.{Known, waits, machine_now, stands, known_after}
use Rattle.xf_runs.specs.Holds.{at_home, HonestHolds}
use Rattle.xf_runs.specs.Honest.{MoveStands, StillStands, Answered, Refused, GivenUp, HeldBack, SendStands, SendAnswered, SendRefused, SendGone, DrawIsHonest}
use Rattle.xf_runs.proofs.Flags.{both, off, none-is}
use Rattle.xf_runs.proofs.Ways.{ByTrial, ByMove, ByTurn, BySlot, Way, MayDraw, may-draw, by-trial, by-move, by-turn, by-slot}
use Rattle.xf_runs.proofs.Always.{seated, entry_of, from-entry, move as always_move, still as always_still, wait as always_wait, shut-without}
use Rattle.xf_runs.proofs.Scenes.{Sight, turn, shift, account, hold, at_home_now}

-- an exception rests on no own part
pub covers-none : (turns : List SlotTurn) (m : Machine) (r : Receipt) → is_exception r.reply ≡ true → IsCovered turns (rests_on m.shown r)
covers-none turns m r out sid rests = nothing sid (sym (rests-none m.shown r out) ∙ rests)

module _ (sight : Sight) where
  open sight use {bucket_of, good, lists, id_place, index_at, policies, states, listing, pools, shows, made, base, start, opens, known as k, holds as h, seat as i, view as v, pending as o, there as at, fits as f}

  abbrev p : ProtocolState
  p = k.state

  abbrev n : Numbers
  n = p.numbers

  abbrev m : ℕ
  m = p.steps + 1

  abbrev last : Machine
  last = machine_now lists start k

  abbrev Part : Known → Type 0
  Part z = HonestHolds bucket_of good lists id_place policies states made base start z

  abbrev pub Next : Kind → Type 0
  Next j = Part (known_after lists start k i v (seated v o) j)

  abbrev rest_of : Receipt → Option ℕ
  rest_of r = rests_on last.shown r

  -- a draw that waits
  wait : (u : Option Receipt) → v.hand.has_turn ≡ false → v.hand.trial ≡ None
      → ((r : Receipt) → u ≡ Some r → (r.number ≡ n.draw) × (r.worker ≡ i) × (is_moving r.reply ≡ false))
      → Part (record (waits k i v) { state = drawn_later p i (seated v o) u })
  wait u without none pending =
      let w = view_after_trial v n.draw (moves k.log) in
      record {
        always = always_wait lists start made k h.always i v o at f u without none pending;
        image = trial_keeps_image bucket_of good base m made n k.owners k.log p.words k.settled k.views (turn sight) h.image i v at f.here none;
        pinned = try_keeps_pins policies (policies + states) id_place m made n k.owners k.log p.words k.settled k.pins k.views (turn sight) h.pinned i v at f.here n.draw (moves k.log);
        own = at_home_now sight k.settled p.turns (k.log ++ mark v.worker None None ∷ []) (at_home lists start k.log k.settled) (set k.views i w) (trial_keeps_own bucket_of good lists listing m base start (shift sight));
        legal = waits_keeps_legal bucket_of good lists m base start (shift sight);
        again = waits_keeps_again bucket_of good m base (account sight) (moves k.log);
        retired = waits_keeps_retired policies states start k.log k.settled v.worker h.retired;
        stale = trial_keeps_stale bucket_of good lists id_place policies states listing shows m base start (hold sight) n.draw (moves k.log);
        slots = h.slots;
        words = h.words;
      }

  -- the state after a draw whose receipt stands at once
  abbrev Drawn : Receipt → Bool → Known
  Drawn r moves = record (stands lists start k i v r moves) { state = drawn_now p i (seated v o) r moves }

  move : (e : Entry) → v.hand.has_turn ≡ true → v.hand.writing ≡ true → v.hand.drawn ≡ false → v.hand.trial ≡ None → is_moving e.reply ≡ true
      → MoveStands bucket_of good lists id_place index_at policies states base start k v (receipt n.draw v.worker e) → Part (Drawn (receipt n.draw v.worker e) true)
  move e has is yet none moving honest =
      let r = receipt n.draw v.worker e in
      let one = rest_of r in
      let all = moves k.log ++ r ∷ [] in
      let turns = map (moved_turn lists v.image.words one r.call) v.own.turns in
      let w = view_after_draw v true all r turns in
      let log = k.log ++ mark v.worker one (Some r) ∷ [] in
      let g = h.image.each i v at f.here in
      let kept : k.settled ≡ v.image.kept = g.settled is ∙ ap (λ (b : Bool). if b then p.words else v.image.kept) yet in
      let place = λ (s : ℕ) (l : List ℕ). slice_index l (id_place s) in
      let may = move_is_legal bucket_of good lists listing m base start (shift sight) r is yet honest.answers in
      record {
        always = always_move lists start made k h.always i v o at f e has is yet none moving;
        image = move_keeps_image bucket_of good base m made n k.owners k.log p.words k.settled k.views (turn sight) h.image i v at f.here one e turns has is yet none moving honest.leads;
        pinned = move_keeps_pins policies (policies + states) id_place m made n k.owners k.log p.words k.settled k.pins k.views (turn sight) h.pinned i v at f.here all r turns is
            (λ s low inside other. ap (place s) (sym (g.image has)) ∙ honest.ids s low inside other ∙ ap (place s) (sym kept));
        own = at_home_now sight p.words p.turns log (at_home lists start k.log k.settled) (set k.views i w)
            (move_keeps_own bucket_of good lists listing m base start (shift sight) e has is yet none moving may.may honest.leads honest.keeps may.covered);
        legal = stands_keeps_legal bucket_of good lists m base start (shift sight) one e may.may;
        again = subst (λ (b : Bool). AgainPart n.generation log (set k.views i (view_after_draw v b all r turns))) moving (stands_keeps_again bucket_of good m base (account sight) all one e turns);
        retired = move_keeps_retired bucket_of good lists index_at policies states pools m base start (shift sight) one e has is yet none moving may.may honest.leads honest.policy_slots honest.state_slots h.retired;
        stale = move_keeps_stale bucket_of good lists id_place policies states listing shows m base start (hold sight) one e has is yet none moving may.may honest.leads honest.keeps all turns;
        slots = h.slots;
        words = h.words;
      }

  still : (e : Entry) → v.hand.writing ≡ false → v.hand.trial ≡ None → is_moving e.reply ≡ false
      → MayStand start k.log v.own.turns (receipt n.draw v.worker e) (rest_of (receipt n.draw v.worker e)) → Part (Drawn (receipt n.draw v.worker e) false)
  still e shut none stays may =
      let r = receipt n.draw v.worker e in
      let one = rest_of r in
      let all = moves k.log in
      let turns = map (touched_turn one r.call) v.own.turns in
      let w = view_after_draw v false all r turns in
      let log = k.log ++ mark v.worker one (Some r) ∷ [] in
      record {
        always = always_still lists start made k h.always i v o at f e shut none stays;
        image = still_keeps_image bucket_of good base m made n k.owners k.log p.words k.settled k.views (turn sight) h.image i v at f.here one e turns shut none stays;
        pinned = still_keeps_pins policies (policies + states) id_place m made n k.owners k.log p.words k.settled k.pins k.views (turn sight) h.pinned i v at f.here all r turns;
        own = at_home_now sight k.settled p.turns log (at_home lists start k.log k.settled) (set k.views i w)
            (still_keeps_own bucket_of good lists listing m base start (shift sight) e none stays may.may may.covered);
        legal = stands_keeps_legal bucket_of good lists m base start (shift sight) one e may.may;
        again = subst (λ (b : Bool). AgainPart n.generation log (set k.views i (view_after_draw v b all r turns))) stays (stands_keeps_again bucket_of good m base (account sight) all one e turns);
        retired = still_keeps_retired policies states start k.log k.settled v.worker one r h.retired;
        stale = still_keeps_stale bucket_of good lists id_place policies states listing shows m base start (hold sight) one r all turns;
        slots = h.slots;
        words = h.words;
      }

  still-stands : (r : Receipt) → v.hand.has_turn ≡ true → v.hand.writing ≡ false → r.worker ≡ i → StillStands bucket_of good lists id_place index_at policies states base start v r
      → MayStand start k.log v.own.turns r (rest_of r)
  still-stands r has shut worker (Answered honest) = still_is_legal bucket_of good lists listing m base start (shift sight) r has shut honest
  still-stands r has shut worker (Refused wants) = want_is_legal start k.log v.own.turns last r wants
  still-stands r has shut worker (GivenUp tries is) = record {
    may = still_gives_up bucket_of good m base (account sight) start r tries has shut (worker ∙ sym f.named) is;
    covered = covers-none v.own.turns last r (ap is_exception is.reply);
  }
  still-stands r has shut worker (HeldBack live waiting least is full) = record {
    may = full_is_legal bucket_of good lists index_at policies states pools m base start (shift sight) r live waiting has shut least is full h.retired;
    covered = covers-none v.own.turns last r (ap is_exception is ∙ lt-ltb 0 waiting (omega arith));
  }

  send-stands : (r : Receipt) → SendStands bucket_of good lists id_place index_at policies states base start k v r → MayStand start k.log v.own.turns r (rest_of r)
  send-stands r (SendAnswered honest) = send_is_legal bucket_of good lists listing m base start (shift sight) r honest
  send-stands r (SendRefused wants) = want_is_legal start k.log v.own.turns last r wants
  send-stands r (SendGone sid len e is stale has held other) =
      send_is_legal bucket_of good lists listing m base start (shift sight) r
      (IsStale sid len is stale (held_gone bucket_of good lists id_place policies states listing shows m base start (hold sight) sid e has held other))

  abbrev DrawnBy : Receipt → Bool → Bool → Known
  DrawnBy r trial moves = record (if trial then waits k i v else stands lists start k i v r moves) { state = if trial then drawn_later p i (seated v o) (Some r) else drawn_now p i (seated v o) r moves }

  pub draw_none : may_step p i v.hand (kind.Draw None) ≡ true → Next (kind.Draw None)
  draw_none legal =
      let l = both (not v.hand.has_turn && is_none v.hand.trial) (began_even v.hand.began) legal in
      let d = both (not v.hand.has_turn) (is_none v.hand.trial) l.0 in
      wait None (off v.hand.has_turn d.0) (none-is v.hand.trial d.1) (λ r e. absurd (none-some r e))

  pub draw_some : (r : Receipt) → may_step p i v.hand (kind.Draw (Some r)) ≡ true → DrawIsHonest bucket_of good lists id_place index_at policies states base start k v r → Next (kind.Draw (Some r))
  draw_some r legal honest = by d.way
    where
      d : MayDraw n.draw i v.hand r
      d = may-draw n.draw i v.hand r legal

      is : r ≡ receipt n.draw v.worker (entry_of r)
      is = from-entry r n.draw v.worker d.number (d.worker ∙ sym f.named)

      stay : is_by_trial v.hand r ≡ false → is_by_move v.hand r ≡ false → v.hand.writing ≡ false → is_moving r.reply ≡ false → MayStand start k.log v.own.turns r (rest_of r)
          → Part (DrawnBy r (is_by_trial v.hand r) (is_by_move v.hand r))
      stay a b shut stays may =
          subst₂ (λ (c x : Bool). Part (DrawnBy r c x)) (sym a) (sym b)
          (subst (λ (q : Receipt). Part (Drawn q false)) (sym is) (still (entry_of r) shut d.none stays (subst (λ (q : Receipt). MayStand start k.log v.own.turns q (rest_of q)) is may)))

      by : Way v.hand r → Part (DrawnBy r (is_by_trial v.hand r) (is_by_move v.hand r))
      by (ByTrial a) =
          let t = by-trial v.hand r a in
          subst (λ (b : Bool). Part (DrawnBy r b (is_by_move v.hand r))) (sym a)
          (wait (Some r) t.0 d.none (λ q e. subst (λ (z : Receipt). (z.number ≡ n.draw) × (z.worker ≡ i) × (is_moving z.reply ≡ false)) (same_Some r q e) (d.number, d.worker, t.1)))
      by (ByMove a b) =
          let t = by-move v.hand r b in
          subst₂ (λ (c x : Bool). Part (DrawnBy r c x)) (sym a) (sym b)
          (subst (λ (q : Receipt). Part (Drawn q true)) (sym is)
          (move (entry_of r) t.0 t.1 t.2 d.none t.3 (subst (MoveStands bucket_of good lists id_place index_at policies states base start k v) is (honest.moving b))))
      by (ByTurn a b c) = let t = by-turn v.hand r c in stay a b t.1 t.2 (still-stands r t.0 t.1 d.worker (honest.still c))
      by (BySlot a b c) = let t = by-slot v.hand r c in stay a b (shut-without lists start made k h.always i v o at f t.0) t.1 (send-stands r (honest.sent c))
