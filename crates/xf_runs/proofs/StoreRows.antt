-- A store of a word, and a turn that is taken or given back, keep all parts.
use Rattle.std.proofs.Common.{◌≡◌, ℕ, zero, suc, ◌+◌, ◌<◌, ◌≤◌, Bool, true, false, not, List, length, set, refl, sym, ap, ◌∙◌, subst, arith, ◌⊎◌, eqb-true, ltb-true, ltb-false}
use Rattle.std.specs.Prelude.{◌&&◌, ◌||◌, ◌==◌, nat_lt, is_none, if◌then◌else◌, slice_index, slice_set}
use Rattle.std.proofs.lemmas.List.{length-set}
use mathlib.Core.Option.{some}
use Rattle.xf_types.specs.Machine.{Machine}
use Rattle.xf_views.specs.Hands.{loaded_since}
use Rattle.xf_views.specs.Log.{Numbers}
use Rattle.xf_views.specs.Views.{view_after_store, view_after_take, view_after_miss, view_after_give}
use Rattle.xf_invariant.specs.PinPart.{PinPart}
use Rattle.xf_invariant.proofs.ImageTurns.{take_keeps_image, give_keeps_image, miss_keeps_image}
use Rattle.xf_invariant.proofs.ImageOpenings.{store_keeps_image}
use Rattle.xf_invariant.proofs.PinRest.{take_keeps_pins, miss_keeps_pins, give_keeps_pins}
use Rattle.xf_invariant.proofs.PinStores.{retire_keeps_pins, list_free_keeps_pins, list_again_keeps_pins, other_keeps_pins}
use Rattle.xf_ownpart.specs.OwnPart.{OwnPart, listed_at, standing_of}
use Rattle.xf_ownpart.proofs.OwnTurns.{take_keeps_own, give_keeps_own}
use Rattle.xf_proto.specs.declared.step.Kind.{Kind}
use Rattle.xf_proto.specs.declared.step.Kind.TheVariants as kind
use Rattle.xf_proto.specs.ProtocolState.{ProtocolState}
use Rattle.xf_proto.specs.Statuses.{are_clear, may_become, may_store}
use Rattle.xf_proto.specs.Legality.{has_slot, may_step}
use Rattle.xf_proto.specs.Effects.{taken_by}
use Rattle.xf_runs.specs.Known.{Known, machine_now, takes, known_after}
use Rattle.xf_runs.specs.Holds.{AlwaysHolds, at_home, HonestHolds}
use Rattle.xf_runs.proofs.Clear.{clear-all}
use Rattle.xf_runs.proofs.Flags.{both, off}
use Rattle.xf_runs.proofs.Lookups.{at-index, held-slot}
use Rattle.xf_runs.proofs.Always.{seated}
use Rattle.xf_runs.proofs.Scenes.{Sight, turn, shift, always, mine, own, again, counted, stale, ours}

module _ (sight : Sight) where
  open sight use {bucket_of, good, lists, id_place, index_at, policies, states, listing, pools, shows, made, base, start, opens, known as k, holds as h, seat as i, view as v, pending as o, there as at, fits as f}

  abbrev p : ProtocolState
  p = k.state

  abbrev n : Numbers
  n = p.numbers

  abbrev m : ℕ
  m = p.steps + 1

  abbrev last : Machine
  last = machine_now lists start k

  abbrev Part : Known → Type 0
  Part z = HonestHolds bucket_of good lists id_place policies states made base start z

  abbrev pub Next : Kind → Type 0
  Next j = Part (known_after lists start k i v (seated v o) j)

  -- a store
  abbrev Stored : ℕ → ℕ → Type 0
  Stored place word = PinPart policies (policies + states) id_place n.generation (slice_set p.words place word) k.settled k.pins (set k.views i (view_after_store (policies + states) v place word))

  status : (place word : ℕ) → v.hand.writing ≡ true → place < policies + states → (x : ℕ) → slice_index p.words place ≡ x → may_become p v.hand place x word ≡ true → Stored place word
  status place word is inside zero e l =
      subst (Stored place) (sym (eqb-true word 1 l))
      (list_free_keeps_pins policies (policies + states) id_place m made n k.owners k.log p.words k.settled k.pins k.views (turn sight) h.pinned i v at f.here place is inside h.words e)
  status place word is inside (suc zero) e l =
      subst (Stored place) (sym (eqb-true word (n.generation + 1) l))
      (retire_keeps_pins policies (policies + states) id_place m made n k.owners k.log p.words k.settled k.pins k.views (turn sight) h.pinned i v at f.here place is inside h.words e)
  status place word is inside (suc (suc r)) e l =
      let b = both (word == 1) (are_clear (r + 2) (loaded_since place v.hand) (length p.seats)) l in
      let was : r + 2 ≡ slice_index p.words place = omega arith in
      subst (Stored place) (sym (eqb-true word 1 b.0))
      (list_again_keeps_pins policies (policies + states) id_place m made n k.owners k.log p.words k.settled k.pins k.views (turn sight) h.pinned i v at f.here place is inside h.words (omega arith)
      (λ j less.
      let c = clear-all (r + 2) (loaded_since place v.hand) (length p.seats) b.1 j (subst (λ z. j < z) (sym h.always.told.count) less) in
      (c.0, c.1, subst (λ z. (c.0 ≡ 0) ⊎ (z < c.0)) was c.2)))

  stored-pins : (place word : ℕ) → v.hand.writing ≡ true → may_store p v.hand place word ≡ true → Stored place word
  stored-pins place word is = by (nat_lt place (length p.turns)) refl
    where
      by : (b : Bool) → nat_lt place (length p.turns) ≡ b → (if b then may_become p v.hand place (slice_index p.words place) word else true) ≡ true → Stored place word
      by true e l = status place word is (subst (λ z. place < z) h.slots (ltb-true place (length p.turns) e)) (slice_index p.words place) refl l
      by false e l =
          other_keeps_pins policies (policies + states) id_place m made n k.owners k.log p.words k.settled k.pins k.views (turn sight) h.pinned i v at f.here place word is
          (subst (λ z. z ≤ place) h.slots (ltb-false place (length p.turns) e))

  pub store : (place word : ℕ) → may_step p i v.hand (kind.Store place word) ≡ true → Next (kind.Store place word)
  store place word legal =
      let w = view_after_store (length p.turns) v place word in
      let d = both (v.hand.has_turn && v.hand.writing && not v.hand.drawn && nat_lt place (length p.words)) (may_store p v.hand place word) legal in
      let c = both (v.hand.has_turn && v.hand.writing && not v.hand.drawn) (nat_lt place (length p.words)) d.0 in
      let b = both (v.hand.has_turn && v.hand.writing) (not v.hand.drawn) c.0 in
      let is = (both v.hand.has_turn v.hand.writing b.0).1 in
      record {
        always = always sight (kind.Store place word) legal;
        image = store_keeps_image bucket_of good base m made n k.owners k.log p.words k.settled k.views (turn sight) h.image i v at f.here (length p.turns) place word is (off v.hand.drawn b.1);
        pinned = subst (λ x. PinPart policies (policies + states) id_place n.generation (slice_set p.words place word) k.settled k.pins (set k.views i (view_after_store x v place word))) (sym h.slots) (stored-pins place word is d.1);
        own = own sight w (mine sight);
        legal = h.legal;
        again = again sight w (counted sight);
        retired = h.retired;
        stale = stale sight w (ours sight);
        slots = h.slots;
        words = subst (λ x. policies + states ≤ x) (sym (length-set p.words place word)) h.words;
      }

  pub take_turn : (slot : ℕ) → may_step p i v.hand (kind.TakeTurn slot) ≡ true → Next (kind.TakeTurn slot)
  take_turn slot legal = by (slice_index p.turns slot) refl (always sight (kind.TakeTurn slot) legal)
    where
      less : slot < length p.turns
      less = ltb-true slot (length p.turns) (both (nat_lt slot (length p.turns)) (not (has_slot slot v.hand.slots)) (both (nat_lt slot (length p.turns) && not (has_slot slot v.hand.slots)) (not v.hand.writing) legal).0).0

      by : (word : ℕ) → slice_index p.turns slot ≡ word → AlwaysHolds made (record (takes lists start k i v slot word) { state = taken_by p i (seated v o) slot word })
          → Part (record (takes lists start k i v slot word) { state = taken_by p i (seated v o) slot word })
      by zero e a = let listed = listed_at lists last k.settled slot in let w = view_after_take v slot listed in record {
        always = a;
        image = take_keeps_image bucket_of good base m made n k.owners k.log p.words k.settled k.views (turn sight) h.image i v at f.here slot listed;
        pinned = take_keeps_pins policies (policies + states) id_place m made n k.owners k.log p.words k.settled k.pins k.views (turn sight) h.pinned i v at f.here slot listed;
        own = subst (λ x. OwnPart lists start k.settled (set p.turns slot (x + 1)) k.log (at_home lists start k.log k.settled) (set k.views i w)) f.named
            (take_keeps_own bucket_of good lists listing m base start (shift sight) slot listed (at-index p.turns slot less ∙ ap some e) refl);
        legal = h.legal;
        again = again sight w (counted sight);
        retired = h.retired;
        stale = stale sight w (ours sight);
        slots = length-set p.turns slot (i + 1) ∙ h.slots;
        words = h.words;
      }
      by (suc other) e a = let w = view_after_miss v in record {
        always = a;
        image = miss_keeps_image bucket_of good base m made n k.owners k.log p.words k.settled k.views (turn sight) h.image i v at f.here;
        pinned = miss_keeps_pins policies (policies + states) id_place m made n k.owners k.log p.words k.settled k.pins k.views (turn sight) h.pinned i v at f.here;
        own = own sight w (mine sight);
        legal = h.legal;
        again = again sight w (counted sight);
        retired = h.retired;
        stale = stale sight w (ours sight);
        slots = h.slots;
        words = h.words;
      }

  pub give_turn : (slot : ℕ) → may_step p i v.hand (kind.GiveTurn slot) ≡ true → Next (kind.GiveTurn slot)
  give_turn slot legal =
      let w = view_after_give v slot in
      let a = both (nat_lt slot (length p.turns) && has_slot slot v.hand.slots && is_none v.hand.trial) (not v.hand.writing || v.hand.drawn) legal in
      let b = both (nat_lt slot (length p.turns) && has_slot slot v.hand.slots) (is_none v.hand.trial) a.0 in
      let c = both (nat_lt slot (length p.turns)) (has_slot slot v.hand.slots) b.0 in
      let e = held-slot slot v.own.turns (subst (λ (l : List ℕ). has_slot slot l ≡ true) (sym f.held) c.1) in
      record {
        always = always sight (kind.GiveTurn slot) legal;
        image = give_keeps_image bucket_of good base m made n k.owners k.log p.words k.settled k.views (turn sight) h.image i v at f.here slot;
        pinned = give_keeps_pins policies (policies + states) id_place m made n k.owners k.log p.words k.settled k.pins k.views (turn sight) h.pinned i v at f.here slot;
        own = subst (λ x. OwnPart lists start k.settled (set p.turns x 0) k.log (at_home lists start k.log k.settled) (set k.views i (view_after_give v x))) e.2
            (give_keeps_own bucket_of good lists listing m base start (shift sight) e.0 e.1 (ap standing_of (mine sight e.0 e.1).keeps));
        legal = h.legal;
        again = again sight w (counted sight);
        retired = h.retired;
        stale = stale sight w (ours sight);
        slots = length-set p.turns slot 0 ∙ h.slots;
        words = h.words;
      }
