-- The end of a read keeps all parts, where an honest receipt comes to stand or none does.
use Rattle.std.proofs.Common.{◌≡◌, ℕ, ◌+◌, Bool, true, false, List, [], ◌∷◌, map, set, take, Some, None, Option, refl, sym, ap, ◌∙◌, subst}
use Rattle.xf_types.specs.declared.call.Receipt.{Receipt}
use Rattle.xf_types.specs.Machine.{Machine}
use Rattle.xf_types.specs.Moves.{is_moving}
use Rattle.xf_types.specs.History.{is_exception}
use Rattle.xf_late.specs.Rests.{rests_on}
use Rattle.xf_views.specs.declared.entry.Entry.{Entry}
use Rattle.xf_views.specs.declared.view.SlotTurn.{SlotTurn}
use Rattle.xf_views.specs.Hands.{is_same, hand_after_generation}
use Rattle.xf_views.specs.Log.{Numbers, mark, receipt, moves}
use Rattle.xf_views.specs.Views.{view_after_generation}
use Rattle.xf_invariant.specs.PinPart.{PinPart}
use Rattle.xf_invariant.proofs.ImageReads.{look_keeps_image, settle_keeps_image}
use Rattle.xf_invariant.proofs.ImageSayings.{same-began}
use Rattle.xf_invariant.proofs.PinReads.{generation_keeps_pins}
use Rattle.xf_ownpart.specs.Turns.{tried_of, touched_turn}
use Rattle.xf_ownpart.proofs.OwnReads.{look_keeps_own, settle_keeps_own}
use Rattle.xf_retired.proofs.Rows.{settle_keeps as settle_keeps_retired}
use Rattle.xf_stale.proofs.Stale.{blank_keeps as blank_keeps_stale, settled_keeps as settled_keeps_stale}
use Rattle.xf_legalpart.specs.HonestLaws.{MayStand}
use Rattle.xf_legalpart.proofs.AgainRows.{blank_keeps_again, settled_keeps_again}
use Rattle.xf_legalpart.proofs.GivenUp.{trial_gives_up}
use Rattle.xf_legalpart.proofs.Legal.{settle_keeps_legal}
use Rattle.xf_legalpart.proofs.Honesty.{trial_is_legal, want_is_legal}
use Rattle.xf_proto.specs.declared.step.Kind.{Kind}
use Rattle.xf_proto.specs.declared.step.Kind.TheVariants as kind
use Rattle.xf_proto.specs.ProtocolState.{ProtocolState}
use Rattle.xf_proto.specs.Effects.{settled_with, with_seat}
use Rattle.xf_runs.specs.Known.{Known, machine_now, ends, known_after}
use Rattle.xf_runs.specs.Holds.{at_home, HonestHolds}
use Rattle.xf_runs.specs.Honest.{TrialStands, TrialAnswered, TrialRefused, TrialGivenUp, EndIsHonest}
use Rattle.xf_runs.proofs.Always.{seated, entry_of, from-entry, look as always_look, settle as always_settle}
use Rattle.xf_runs.proofs.Scenes.{Sight, turn, shift, account, hold, at_home_now}
use Rattle.xf_runs.proofs.DrawRows.{covers-none}

module _ (sight : Sight) where
  open sight use {bucket_of, good, lists, id_place, index_at, policies, states, listing, pools, shows, made, base, start, opens, known as k, holds as h, seat as i, view as v, pending as o, there as at, fits as f}

  abbrev p : ProtocolState
  p = k.state

  abbrev n : Numbers
  n = p.numbers

  abbrev m : ℕ
  m = p.steps + 1

  abbrev last : Machine
  last = machine_now lists start k

  abbrev Part : Known → Type 0
  Part z = HonestHolds bucket_of good lists id_place policies states made base start z

  abbrev pub Next : Kind → Type 0
  Next j = Part (known_after lists start k i v (seated v o) j)

  abbrev rest_of : Receipt → Option ℕ
  rest_of r = rests_on last.shown r

  -- a read ends
  abbrev Ended : Bool → Option Receipt → Known
  Ended same u = record (ends lists start k i v same u) { state = record (with_seat p i (hand_after_generation v.hand n.generation) None) { receipts = settled_with same u p.receipts } }

  read-pins : (all settled : List Receipt) (turns : List SlotTurn)
      → PinPart policies (policies + states) id_place n.generation p.words k.settled k.pins (set k.views i (view_after_generation v n.generation all settled turns))
  read-pins all settled turns =
      let g = h.image.each i v at f.here in
      generation_keeps_pins policies (policies + states) id_place m made n k.owners k.log p.words k.settled k.pins k.views (turn sight) h.pinned i v at f.here all settled turns
      (λ same. let s = same-began v.hand.began n.generation same in (s.1, h.image.calm s.1, (g.read n.generation s.0).1 s.1 refl))

  look : Part (Ended true None)
  look = record {
    always = always_look lists start made k h.always i v o at f;
    image = look_keeps_image bucket_of good base m made n k.owners k.log p.words k.settled k.views (turn sight) h.image i v at f.here v.own.turns;
    pinned = read-pins (moves k.log) [] v.own.turns;
    own = look_keeps_own bucket_of good lists listing m base start (shift sight);
    legal = h.legal;
    again = blank_keeps_again bucket_of good m base (account sight) (moves k.log) v.own.turns;
    retired = h.retired;
    stale = blank_keeps_stale bucket_of good lists id_place policies states listing shows m base start (hold sight) (moves k.log) v.own.turns;
    slots = h.slots;
    words = h.words;
  }

  settle : (x : ℕ) (e : Entry) → v.hand.trial ≡ Some x → is_same v.hand.began n.generation ≡ true → is_moving e.reply ≡ false
      → MayStand start (take x k.log) (tried_of v.own.turns) (receipt x v.worker e) (rest_of (receipt x v.worker e)) → Part (Ended true (Some (receipt x v.worker e)))
  settle x e trial same stays may =
      let r = receipt x v.worker e in
      let one = rest_of r in
      let all = moves k.log in
      let turns = map (touched_turn one r.call) v.own.turns in
      let w = view_after_generation v n.generation all (r ∷ []) turns in
      let log = set k.log x (mark v.worker one (Some r)) in
      record {
        always = always_settle lists start made k h.always i v o at f x e trial stays;
        image = settle_keeps_image bucket_of good base m made n k.owners k.log p.words k.settled k.views (turn sight) h.image i v at f.here x one e turns trial stays;
        pinned = read-pins all (r ∷ []) turns;
        own = at_home_now sight k.settled p.turns log (at_home lists start k.log k.settled) (set k.views i w)
            (settle_keeps_own bucket_of good lists listing m base start (shift sight) x trial same e stays may.may may.covered);
        legal = settle_keeps_legal bucket_of good lists m base start (shift sight) listing x e trial same stays may.may may.covered;
        again = settled_keeps_again bucket_of good m base (account sight) x one e all turns trial stays;
        retired = settle_keeps_retired bucket_of good lists policies states listing m base start (shift sight) x e trial same stays may.may may.covered h.retired;
        stale = settled_keeps_stale bucket_of good lists id_place policies states listing shows m base start (hold sight) x e all turns trial same stays may.may may.covered;
        slots = h.slots;
        words = h.words;
      }

  trial-stands : (x : ℕ) (r : Receipt) → v.hand.trial ≡ Some x → is_same v.hand.began n.generation ≡ true → r.worker ≡ i → TrialStands bucket_of good lists id_place index_at policies states base start v r
      → MayStand start (take x k.log) (tried_of v.own.turns) r (rest_of r)
  trial-stands x r trial same worker (TrialAnswered honest) = trial_is_legal bucket_of good lists listing m base start (shift sight) x r trial same honest
  trial-stands x r trial same worker (TrialRefused wants) = want_is_legal start (take x k.log) (tried_of v.own.turns) last r wants
  trial-stands x r trial same worker (TrialGivenUp tries is) = record {
    may = trial_gives_up bucket_of good m base (account sight) start x r tries trial same (worker ∙ sym f.named) is;
    covered = covers-none (tried_of v.own.turns) last r (ap is_exception is.reply);
  }

  pub load_generation : EndIsHonest bucket_of good lists id_place index_at policies states base start k v (seated v o) → Next kind.LoadGeneration
  load_generation honest = by (is_same v.hand.began n.generation) refl o refl
    where
      by : (same : Bool) → is_same v.hand.began n.generation ≡ same → (u : Option Receipt) → o ≡ u → Part (Ended same u)
      by true is None e = look
      by true is (Some r) e =
          let t = f.waiting r e in
          let whole = from-entry r r.number v.worker refl (t.1 ∙ sym f.named) in
          subst (λ (q : Receipt). Part (Ended true (Some q))) (sym whole)
          (settle r.number (entry_of r) t.0 is t.2
          (subst (λ (q : Receipt). MayStand start (take r.number k.log) (tried_of v.own.turns) q (rest_of q)) whole (trial-stands r.number r t.0 is t.1 (honest r is e))))
      by false is u e = look
