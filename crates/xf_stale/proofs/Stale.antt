-- Held states are at home or gone.
use Rattle.std.proofs.Common.{◌≡◌, ℕ, zero, suc, ◌+◌, ◌<◌, ◌≤◌, Bool, true, false, true≢false, List, [], ◌∷◌, ◌++◌, set, take, drop, Some, None, Option, refl, sym, ap, ◌∙◌, subst, arith, ⊎_elim, inl, inr, Contains}
use Rattle.std.specs.Prelude.{if◌then◌else◌}
use Rattle.std.specs.Option.{option_map}
use Rattle.std.proofs.lemmas.Bool.{cases_Bool, cond-true, cond-false}
use Rattle.std.proofs.lemmas.List.{append-nil}
use Rattle.std.proofs.lemmas.List.Elements.{All-contains, All-cons}
use mathlib.Core.Option.{some, some-ne-none}
use lib.ListN.{get_elem?}
use Rattle.xf_types.specs.declared.call.Receipt.{Receipt}
use Rattle.xf_types.specs.declared.state.Sa.{Sa}
use Rattle.xf_types.specs.Machine.{Machine, Shown}
use Rattle.xf_types.specs.Moves.{is_moving}
use Rattle.xf_types.specs.Standing.{Nothing, OneState}
use Rattle.xf_types.specs.Steps.{step}
use Rattle.xf_types.specs.History.{Moment, MayReply, IsLegalFrom, is_exception, machine_next, beginning, machine_of, moment_of}
use Rattle.xf_types.specs.IsMachine.{IsShownPart}
use Rattle.xf_laws.specs.LeaveLaws.{is_listed}
use Rattle.xf_laws.proofs.FoldLemmas.{ruled}
use Rattle.xf_laws.proofs.LaterLemmas.{step-later}
use Rattle.xf_laws.proofs.NewLemmas.{state-new}
use Rattle.xf_late.specs.Rests.{rests_on}
use Rattle.xf_late.proofs.Still.{still-shown}
use Rattle.xf_late.proofs.Late.{legal-both, legal-more, moment-joins}
use Rattle.xf_views.specs.declared.entry.Entry.{Entry}
use Rattle.xf_views.specs.declared.entry.Listed.{Listed}
use Rattle.xf_views.specs.declared.view.View.{View}
use Rattle.xf_views.specs.declared.view.Start.{Start}
use Rattle.xf_views.specs.declared.view.SlotTurn.{SlotTurn}
use Rattle.xf_views.specs.Hands.{is_same}
use Rattle.xf_views.specs.Starts.{first_views}
use Rattle.xf_views.specs.Log.{Mark, mark, receipt, receipts_of, moves}
use Rattle.xf_views.specs.Views.{shows_after, view_after_draw, view_after_trial, view_after_generation}
use Rattle.xf_views.proofs.Beginnings.{at_first}
use Rattle.xf_views.proofs.Logs.{receipts-append}
use Rattle.xf_views.proofs.Seats.{each_set}
use Rattle.xf_invariant.specs.Meaning.{Told, told, told_after, told_after_moves, Opens}
use Rattle.xf_invariant.specs.PinPart.{Has, Holds}
use Rattle.xf_invariant.proofs.Held.{has_snoc, agrees_at}
use Rattle.xf_invariant.proofs.ImageDraws.{move_keeps_image}
use Rattle.xf_invariant.proofs.ImageSayings.{image_says, same-began}
use Rattle.xf_ownpart.specs.Lists.{ListsStates, IsListing}
use Rattle.xf_ownpart.specs.OwnPart.{with_own, standing_of}
use Rattle.xf_ownpart.specs.Turns.{IsCovered, tried_of, KeepsSlots}
use Rattle.xf_ownpart.specs.OwnLaws.{Shift, last_of}
use Rattle.xf_ownpart.proofs.Slots.{listed-one}
use Rattle.xf_ownpart.proofs.Moments.{opened, told-after, lists-after, lists-now, last-is, next-after}
use Rattle.xf_ownpart.proofs.OwnSeats.{mine}
use Rattle.xf_ownpart.proofs.OwnReads.{place, place-is, shown-there, rest-still, set-parts, settle-legal}
use Rattle.xf_stale.specs.StalePart.{AreShown, IsAtHome, IsInStale, StalePart}
use Rattle.xf_stale.specs.StaleLaws.{Hold}

pub stale_begins : (lists : List ℕ → ℕ → Option (Sa × ℕ)) (id_place : ℕ → ℕ) (policies states : ℕ) (start : Machine) (base : List ℕ) (made : ℕ) (first : Start)
    → StalePart lists id_place policies states start [] base (first_views first made)
stale_begins lists id_place policies states start base made first = record {
  each = λ i v at h slot sid hold. absurd (some-ne-none hold.0 (sym (ap (λ (l : List (List (ℕ × ℕ))). get_elem? l hold.1.0) (sym (ap (λ (z : View). z.pins.shows) (at_first first made i v at).1)) ∙ hold.1.1)));
}

-- ids are given in order
next-given : (m : Machine) (r : Receipt) → m.shown.next_sid ≤ (machine_next m r).shown.next_sid
next-given m r = elim (cases_Bool (is_exception r.reply)) [
  | inl out ↦ subst (λ (n : Machine). m.shown.next_sid ≤ n.shown.next_sid) (sym (cond-true (is_exception r.reply) m (step m r.call).machine out)) (omega arith)
  | inr ours ↦ subst (λ (n : Machine). m.shown.next_sid ≤ n.shown.next_sid) (sym (cond-false (is_exception r.reply) m (step m r.call).machine ours)) (step-later m r.call).sid_kept
]

module _ (bucket_of : Sa → ℕ) (good : List ℕ → Told → Type 0) (lists : List ℕ → ℕ → Option (Sa × ℕ)) (id_place : ℕ → ℕ) (policies states : ℕ) (all : IsListing good lists) (shows : AreShown good lists id_place policies states)
    (most : ℕ) (base : List ℕ) (start : Machine) (h : Hold bucket_of good lists id_place policies states most base start) where
  abbrev w : Shift bucket_of good lists most base start
  w = h.shift

  abbrev v : View
  v = w.scene.view

  abbrev last : Machine
  last = last_of bucket_of good lists most base start w

  abbrev Part : List Mark → List ℕ → View → Type 0
  Part log settled z = StalePart lists id_place policies states start log settled (set w.scene.views w.scene.seat z)

  abbrev pub Mine : Shown → List ℕ → View → Type 0
  Mine s settled z = IsInStale lists id_place policies states s settled z

  pub ours : Mine last.shown w.scene.settled v
  ours = h.stale.each w.scene.seat v w.scene.there w.scene.here

  -- a step after which each held state that was at home still is
  row : (log : List Mark) (settled : List ℕ) (z : View) → ((slot sid : ℕ) → IsAtHome lists last.shown w.scene.settled slot sid → IsAtHome lists (machine_of start (receipts_of log)).shown settled slot sid)
      → Mine (machine_of start (receipts_of log)).shown settled z → Part log settled z
  row log settled z stays fits = record {
    each = each_set w.scene.views w.scene.seat v z w.scene.there (Mine (machine_of start (receipts_of log)).shown settled) (λ j u apart at here slot sid hold. stays slot sid (h.stale.each j u at here slot sid hold)) fits;
  }

  pub quiet : (z : View) → Mine last.shown w.scene.settled z → Part w.scene.log w.scene.settled z
  quiet z fits = row w.scene.log w.scene.settled z (λ slot sid a. a) fits

  pub pin_keeps : (z : View) → z.pins.shows ≡ [] → Part w.scene.log w.scene.settled z
  pin_keeps z none = quiet z (λ slot sid hold. absurd (some-ne-none hold.0 (sym (ap (λ (l : List (List (ℕ × ℕ))). get_elem? l hold.1.0) (sym none) ∙ hold.1.1))))

  -- with later ids, and the same image
  later : (s : Shown) → last.shown.next_sid ≤ s.next_sid → (slot sid : ℕ) → IsAtHome lists last.shown w.scene.settled slot sid → IsAtHome lists s w.scene.settled slot sid
  later s le slot sid a = let less = a.given in record { given = omega arith; there = a.there }

  pub still_keeps : (one : Option ℕ) (r : Receipt) (moves_now : List Receipt) (turns : List SlotTurn)
      → Part (w.scene.log ++ mark v.worker one (Some r) ∷ []) w.scene.settled (view_after_draw v false moves_now r turns)
  still_keeps one r moves_now turns =
      let log = w.scene.log ++ mark v.worker one (Some r) ∷ [] in
      let le : last.shown.next_sid ≤ (machine_of start (receipts_of log)).shown.next_sid = subst (λ (m : Machine). last.shown.next_sid ≤ m.shown.next_sid) (sym (next-after start w.scene.log v.worker one r)) (next-given last r) in
      let stays = later (machine_of start (receipts_of log)).shown le in
      row log w.scene.settled (view_after_draw v false moves_now r turns) stays (λ slot sid hold. stays slot sid (ours slot sid hold))

  pub trial_keeps : (x : ℕ) (moves_now : List Receipt) → Part (w.scene.log ++ mark v.worker None None ∷ []) w.scene.settled (view_after_trial v x moves_now)
  trial_keeps x moves_now =
      let log = w.scene.log ++ mark v.worker None None ∷ [] in
      let same : receipts_of w.scene.log ≡ receipts_of log = sym (receipts-append w.scene.log (mark v.worker None None) ∙ append-nil (receipts_of w.scene.log)) in
      let stays : (slot sid : ℕ) → IsAtHome lists last.shown w.scene.settled slot sid → IsAtHome lists (machine_of start (receipts_of log)).shown w.scene.settled slot sid =
      λ slot sid a. subst (λ (rs : List Receipt). IsAtHome lists (machine_of start rs).shown w.scene.settled slot sid) same a in
      row log w.scene.settled (view_after_trial v x moves_now) stays (λ slot sid hold. stays slot sid (ours slot sid hold))

  -- a move
  module _ (one : Option ℕ) (e : Entry) (turn : v.hand.has_turn ≡ true) (opens : v.hand.writing ≡ true) (yet : v.hand.drawn ≡ false) (none : v.hand.trial ≡ None) (moving : is_moving e.reply ≡ true) where
    abbrev r : Receipt
    r = receipt w.scene.numbers.draw v.worker e

    abbrev log : List Mark
    log = w.scene.log ++ mark v.worker one (Some r) ∷ []

    abbrev next : Machine
    next = machine_of start (receipts_of log)

    module _ (may : MayReply (moment_of (beginning start) (receipts_of w.scene.log)) r r.reply)
        (leads : (t : Told) → Opens good base t → good v.image.kept (told_after_moves bucket_of t (moves w.scene.log)) → good v.image.words (told_after bucket_of (told_after_moves bucket_of t (moves w.scene.log)) r))
        (keeps : KeepsSlots lists v.own.turns v.image.kept v.image.words) where
      known : v.image.words ≡ w.scene.words
      known = (w.scene.image.each w.scene.seat v w.scene.there w.scene.here).image turn

      kept : w.scene.settled ≡ v.image.kept
      kept = (w.scene.image.each w.scene.seat v w.scene.there w.scene.here).settled opens ∙ ap (λ (c : Bool). if c then w.scene.words else v.image.kept) yet

      legal : IsLegalFrom (beginning start) (receipts_of log)
      legal = subst (IsLegalFrom (beginning start)) (sym (receipts-append w.scene.log (mark v.worker one (Some r)))) (legal-more (beginning start) (receipts_of w.scene.log) (r ∷ []) w.legal.replies (may, tt))

      well : ListsStates lists w.scene.words next.shown
      well =
          lists-after bucket_of good lists base start w.opens all log w.scene.words legal
          ((move_keeps_image bucket_of good base most w.scene.made w.scene.numbers w.scene.owners w.scene.log w.scene.words w.scene.settled w.scene.views w.scene.turn w.scene.image w.scene.seat v w.scene.there w.scene.here
          one e [] turn opens yet none moving leads).stands (told start.shown w.opens.ids) (opened bucket_of good lists base start w.opens))

      -- it is the machine's
      is-step : next ≡ (step last r.call).machine
      is-step = next-after start w.scene.log v.worker one r ∙ elim (ruled (moment_of (beginning start) (receipts_of w.scene.log)) r r.reply may) [
        | inl x ↦ absurd (true≢false (sym moving ∙ x.still))
        | inr x ↦ cond-false (is_exception r.reply) last (step last r.call).machine x.inside
      ]

      at-home : (slot sid : ℕ) → IsAtHome lists last.shown w.scene.settled slot sid → IsAtHome lists next.shown w.scene.words slot sid
      at-home slot sid a =
          let le = subst (λ (m : Machine). last.shown.next_sid ≤ m.shown.next_sid) (sym is-step) (step-later last r.call).sid_kept in
          let less = a.given in
          record { given = omega arith; there = λ k x listed is. by k x listed is (is_listed x.0.sid last.shown.states) refl }
        where
          by : (k : ℕ) (x : Sa × ℕ) → lists w.scene.words k ≡ Some x → x.0.sid ≡ sid → (b : Bool) → is_listed x.0.sid last.shown.states ≡ b → k ≡ slot
          by k x listed is true old =
              let y = listed-one x.0.sid last.shown.states old in
              let z = (lists-now bucket_of good lists all most base start w).placed y.0 y.1 in
              let p : Sa × ℕ = (y.0, last.shown.time) in
              let home : z.0 ≡ slot = a.there z.0 p z.1 (y.2 ∙ is) in
              let same : z.0 ≡ k = keeps.stays z.0 k p x (ap (λ (image : List ℕ). lists image z.0) (sym kept) ∙ z.1) (ap (λ (image : List ℕ). lists image k) known ∙ listed) y.2 in
              sym same ∙ home
          by k x listed is false missing =
              let there : Contains (step last r.call).machine.shown.states x.0 = subst (λ (m : Machine). Contains m.shown.states x.0) is-step (well.listed k x listed).0 in
              let new = state-new last r.call x.0 (last-is bucket_of good lists all most base start w) there missing in
              let b = new.sid in
              let less = a.given in
              absurd (omega arith)

      pub move_keeps : (moves_now : List Receipt) (turns : List SlotTurn) → Part log w.scene.words (view_after_draw v true moves_now r turns)
      move_keeps moves_now turns = row log w.scene.words (view_after_draw v true moves_now r turns) at-home (λ slot sid hold. at-home slot sid (ours slot sid hold))

  -- what a read that ends the same showed is at home
  shown-home : (slot sid : ℕ) → is_same v.hand.began w.scene.numbers.generation ≡ true → Has v.image.loads (slot, 1) → Has v.image.loads (id_place slot, sid) → policies ≤ slot → slot < policies + states
      → IsAtHome lists last.shown w.scene.settled slot sid
  shown-home slot sid same status id low high =
      let says = image_says bucket_of good base most w.scene.made w.scene.numbers w.scene.owners w.scene.log w.scene.words w.scene.settled w.scene.views w.scene.turn w.scene.image w.scene.seat v w.scene.there w.scene.here in
      let read = says.same same in
      let settled : w.scene.settled ≡ w.scene.words = w.scene.image.calm (same-began v.hand.began w.scene.numbers.generation same).1 in
      let begins = opened bucket_of good lists base start w.opens in
      let t = told_after_moves bucket_of (told start.shown w.opens.ids) (moves w.scene.log) in
      let is = last-is bucket_of good lists all most base start w in
      let part : IsShownPart t.shown = subst IsShownPart (sym (told-after bucket_of good lists base start w.opens w.scene.log w.legal.replies)) is.shown in
      let x = shows w.scene.words t slot part (read.1 (told start.shown w.opens.ids) begins) low high (agrees_at w.scene.words v.image.loads (slot, 1) read.0 status) in
      let listed : lists w.scene.settled slot ≡ Some x.0 = ap (λ (image : List ℕ). lists image slot) settled ∙ x.1 in
      let well = lists-now bucket_of good lists all most base start w in
      let mine_is : sid ≡ x.0.0.sid = sym (agrees_at w.scene.words v.image.loads (id_place slot, sid) read.0 id) ∙ x.2 in
      let given = All-contains (λ (y : Sa). y.sid < last.shown.next_sid) last.shown.states x.0.0 is.shown.states.sids_given (well.listed slot x.0 listed).0 in
      record {
        given = omega arith;
        there = λ k y found is_it. well.once k slot y x.0 found listed (is_it ∙ mine_is);
      }

  read-home : (slot sid : ℕ) (same : Bool) (pin : ℕ) → is_same v.hand.began w.scene.numbers.generation ≡ same
      → Holds policies (policies + states) id_place (shows_after same pin v.image.loads v.pins.shows) slot sid → IsAtHome lists last.shown w.scene.settled slot sid
  read-home slot sid same zero e hold = ours slot sid hold
  read-home slot sid false (suc pin) e hold = ours slot sid hold
  read-home slot sid true (suc pin) e hold = ⊎_elim
      (λ (old : Has v.pins.shows hold.0). ours slot sid (hold.0, old, hold.2, hold.3, hold.4, hold.5))
      (λ (new : v.image.loads ≡ hold.0). shown-home slot sid e (subst (λ (l : List (ℕ × ℕ)). Has l (slot, 1)) (sym new) hold.2) (subst (λ (l : List (ℕ × ℕ)). Has l (id_place slot, sid)) (sym new) hold.3) hold.4 hold.5)
      (has_snoc v.pins.shows v.image.loads hold.0 hold.1)

  pub blank_keeps : (moves_now : List Receipt) (turns : List SlotTurn) → Part w.scene.log w.scene.settled (view_after_generation v w.scene.numbers.generation moves_now [] turns)
  blank_keeps moves_now turns =
      quiet (view_after_generation v w.scene.numbers.generation moves_now [] turns)
      (λ slot sid hold. read-home slot sid (is_same v.hand.began w.scene.numbers.generation) v.hand.pin refl hold)

  pub settled_keeps : (x : ℕ) (e : Entry) (moves_now : List Receipt) (turns : List SlotTurn) → v.hand.trial ≡ Some x → is_same v.hand.began w.scene.numbers.generation ≡ true → is_moving e.reply ≡ false
      → let r = receipt x v.worker e in
      let one = rests_on last.shown r in
      MayReply (moment_of (beginning start) (receipts_of (take x w.scene.log))) r r.reply → IsCovered (tried_of v.own.turns) one
      → Part (set w.scene.log x (mark v.worker one (Some r))) w.scene.settled (view_after_generation v w.scene.numbers.generation moves_now (r ∷ []) turns)
  settled_keeps x e moves_now turns trial same still may covered =
      let r = receipt x v.worker e in
      let one = rests_on last.shown r in
      let log = set w.scene.log x (mark v.worker one (Some r)) in
      let front = receipts_of (take x w.scene.log) in
      let rest = receipts_of (drop (suc x) w.scene.log) in
      let here = place bucket_of good lists all most base start w x trial same in
      let put = set-parts bucket_of good lists all most base start w x trial same e still may covered in
      let legal = subst (IsLegalFrom (beginning start)) put (settle-legal bucket_of good lists all most base start w x trial same e still may covered) in
      let shown : (machine_of start (receipts_of log)).shown ≡ last.shown =
      ap (λ (rs : List Receipt). (machine_of start rs).shown) put
      ∙ ap (λ (t : Moment). t.machine.shown) (moment-joins (beginning start) front (r ∷ rest))
      ∙ still-shown here (r ∷ rest) (place-is bucket_of good lists all most base start w x trial same) (legal-both (beginning start) front (r ∷ rest) legal).1
      (All-cons (λ (q : Receipt). is_moving q.reply ≡ false) r rest still (rest-still bucket_of good lists all most base start w x trial same))
      ∙ sym (shown-there bucket_of good lists all most base start w x trial same) in
      let stays : (slot sid : ℕ) → IsAtHome lists last.shown w.scene.settled slot sid → IsAtHome lists (machine_of start (receipts_of log)).shown w.scene.settled slot sid =
      λ slot sid a. subst (λ (s : Shown). IsAtHome lists s w.scene.settled slot sid) (sym shown) a in
      row log w.scene.settled (view_after_generation v w.scene.numbers.generation moves_now (r ∷ []) turns) stays
      (λ slot sid hold. stays slot sid (read-home slot sid (is_same v.hand.began w.scene.numbers.generation) v.hand.pin refl hold))

  -- a held state whose slot doesn't list it is gone
  gone : (slot sid : ℕ) → Holds policies (policies + states) id_place v.pins.shows slot sid → ((x : Sa × ℕ) → lists w.scene.settled slot ≡ Some x → x.0.sid ≡ sid → ⊥) → is_listed sid last.shown.states ≡ false
  gone slot sid hold other = elim (cases_Bool (is_listed sid last.shown.states)) [
    | inl listed ↦
        let y = listed-one sid last.shown.states listed in
        let z = (lists-now bucket_of good lists all most base start w).placed y.0 y.1 in
        let p : Sa × ℕ = (y.0, last.shown.time) in
        let home : z.0 ≡ slot = (ours slot sid hold).there z.0 p z.1 y.2 in
        absurd (other p (ap (lists w.scene.settled) (sym home) ∙ z.1) y.2)
    | inr missing ↦ missing
  ]

  pub free_gone : (slot sid : ℕ) → Holds policies (policies + states) id_place v.pins.shows slot sid → get_elem? w.turns slot ≡ some 0 → w.home slot ≡ Nothing → is_listed sid last.shown.states ≡ false
  free_gone slot sid hold free dead = gone slot sid hold (λ x at is.
      stands_not (with_own last x) (sym dead ∙ w.own.free slot free ∙ ap (λ (o : Option (Sa × ℕ)). standing_of (option_map (with_own last) o)) at))
    where
      stands_not : (l : Listed) → Nothing ≡ OneState l.state l.time l.own → ⊥
      stands_not l e = cc

  pub held_gone : (sid : ℕ) (e : SlotTurn) → Has v.own.turns e → Holds policies (policies + states) id_place v.pins.shows e.slot sid → ((l : Listed) → e.listed ≡ Some l → l.state.sid ≡ sid → ⊥)
      → is_listed sid last.shown.states ≡ false
  held_gone sid e has hold other = gone e.slot sid hold (λ x at is.
      other (with_own last x) (sym (mine bucket_of good lists all most base start w e has).keeps ∙ ap (option_map (with_own last)) at) is)
