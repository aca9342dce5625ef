-- Draws of receipts that don't move, and of trials.
use Rattle.std.proofs.Common.{◌≡◌, ℕ, ◌<◌, false, List, [], ◌∷◌, ◌++◌, length, map, set, Some, None, Option, refl, sym, ap, ◌∙◌, subst, arith, ⊎_elim, ◌⊎◌, inl, inr, Contains}
use Rattle.std.specs.Option.{option_map}
use Rattle.std.proofs.lemmas.List.{append-nil}
use mathlib.Core.Option.{some}
use lib.ListN.{get_elem?}
use Rattle.xf_types.specs.declared.call.Call.{Call}
use Rattle.xf_types.specs.declared.call.Receipt.{Receipt}
use Rattle.xf_types.specs.declared.state.Sa.{Sa}
use Rattle.xf_types.specs.Machine.{Machine, Shown}
use Rattle.xf_types.specs.OwnParts.{own_in}
use Rattle.xf_types.specs.Moves.{is_moving}
use Rattle.xf_types.specs.History.{MayReply, beginning, machine_of, machine_next, moment_of}
use Rattle.xf_laws.proofs.LeaveLemmas.{receipt-still}
use Rattle.xf_late.specs.Rests.{rests_on, own_touched}
use Rattle.xf_late.proofs.Owns.{own-stays, touched-other}
use Rattle.xf_views.specs.declared.entry.Entry.{Entry}
use Rattle.xf_views.specs.declared.view.View.{View}
use Rattle.xf_views.specs.declared.view.SlotTurn.{SlotTurn}
use Rattle.xf_views.specs.Log.{Mark, mark, receipt, receipts_of, moves}
use Rattle.xf_views.specs.Views.{view_after_draw, view_after_trial, tried_turn}
use Rattle.xf_views.proofs.Lists.{at_snoc, at_end}
use Rattle.xf_views.proofs.Logs.{receipts-append}
use Rattle.xf_invariant.specs.Meaning.{Told}
use Rattle.xf_invariant.specs.PinPart.{Has}
use Rattle.xf_ownpart.specs.Lists.{IsListing}
use Rattle.xf_ownpart.specs.OwnPart.{AreMarked, FitsOwn, OwnPart, listed_at}
use Rattle.xf_ownpart.specs.Turns.{IsHeld, IsCovered, touched, touched_turn}
use Rattle.xf_ownpart.specs.OwnLaws.{Shift, last_of}
use Rattle.xf_ownpart.proofs.Haves.{has_map}
use Rattle.xf_ownpart.proofs.Marked.{shown_after_marks, marks-moves, marked-append}
use Rattle.xf_ownpart.proofs.Slots.{nothing, same-slot, touched-slot}
use Rattle.xf_ownpart.proofs.Moments.{last-is, lists-now, next-after, shown-after}
use Rattle.xf_ownpart.proofs.OwnSeats.{mine, not-rested, row_keeps}

module _ (bucket_of : Sa → ℕ) (good : List ℕ → Told → Type 0) (lists : List ℕ → ℕ → Option (Sa × ℕ)) (all : IsListing good lists) (most : ℕ) (base : List ℕ) (start : Machine) (w : Shift bucket_of good lists most base start) where
  abbrev last : Machine
  last = last_of bucket_of good lists most base start w

  abbrev v : View
  v = w.scene.view

  -- what is shown by the marks
  pub shown-now : shown_after_marks start.shown w.scene.log ≡ last.shown
  shown-now = marks-moves start.shown w.scene.log ∙ shown-after bucket_of good lists base start w.opens w.scene.log w.legal.replies

  -- one number more
  pub marked-more : (sid : Option ℕ) (r : Receipt) → sid ≡ rests_on last.shown r → AreMarked start.shown (w.scene.log ++ mark v.worker sid (Some r) ∷ [])
  marked-more sid r is = marked-append start.shown w.scene.log (mark v.worker sid (Some r)) w.own.marked (is ∙ ap (λ (s : Shown). rests_on s r) (sym shown-now))

  pub marks-more : (sid : Option ℕ) (o : Option Receipt) (y : ℕ) (m : Mark) → get_elem? (w.scene.log ++ mark v.worker sid o ∷ []) y ≡ some m → (get_elem? w.scene.log y ≡ some m) ⊎ (m.rests ≡ sid)
  marks-more sid o y m at =
      ⊎_elim (λ (old : get_elem? w.scene.log y ≡ some m). inl old) (λ (new : mark v.worker sid o ≡ m). inr (sym (ap (λ (z : Mark). z.rests) new)))
      (at_snoc w.scene.log (mark v.worker sid o) m y at)

  -- a receipt that touches the own part of one state alone
  module _ (log : List Mark) (one : Option ℕ) (c : Call) (own : (x : Sa) → Contains last.shown.states x → own_in (machine_of start (receipts_of log)) x ≡ own_touched one c last.shown.time x (own_in last x)) (covered : IsCovered v.own.turns one) where
    abbrev next : Machine
    next = machine_of start (receipts_of log)

    left-slot : (slot : ℕ) → (IsHeld v.own.turns slot → ⊥) → listed_at lists next w.scene.settled slot ≡ listed_at lists last w.scene.settled slot
    left-slot slot unheld =
        same-slot lists last next w.scene.settled w.scene.settled slot refl
        (λ p at. own p.0 ((lists-now bucket_of good lists all most base start w).listed slot p at).0
        ∙ touched-other one c last.shown.time p.0 (own_in last p.0) (not-rested bucket_of good lists all most base start w one covered slot p unheld at))

    fits-touched : (e : SlotTurn) → Has (map (touched_turn one c) v.own.turns) e → FitsOwn lists next w.scene.settled w.turns log v.worker None e
    fits-touched e has =
        let m = has_map (touched_turn one c) v.own.turns e has in
        let f = mine bucket_of good lists all most base start w m.0 m.1 in
        subst (FitsOwn lists next w.scene.settled w.turns log v.worker None) m.2 record {
          word = f.word;
          keeps = touched-slot lists last next w.scene.settled one c (lists-now bucket_of good lists all most base start w) own m.0.slot ∙ ap (option_map (touched one c)) f.keeps;
          no_later = λ l x y k tried is late less there rests. nothing x late;
        }

    pub touch_keeps : (z : View) → AreMarked start.shown log → ((y : ℕ) (m : Mark) → get_elem? log y ≡ some m → (get_elem? w.scene.log y ≡ some m) ⊎ (m.rests ≡ one))
        → ((e : SlotTurn) → Has (map (touched_turn one c) v.own.turns) e → FitsOwn lists next w.scene.settled w.turns log v.worker None e → FitsOwn lists next w.scene.settled w.turns log z.worker z.hand.trial e)
        → ((e : SlotTurn) → Has z.own.turns e → Has (map (touched_turn one c) v.own.turns) e)
        → OwnPart lists start w.scene.settled w.turns log w.home (set w.scene.views w.scene.seat z)
    touch_keeps z marked marks fits has =
        row_keeps bucket_of good lists all most base start w log w.scene.settled one z marked left-slot
        (not-rested bucket_of good lists all most base start w one covered) marks
        (λ e h. fits e (has e h) (fits-touched e (has e h)))

  -- a receipt that doesn't move
  pub still_keeps_own : (e : Entry) → v.hand.trial ≡ None → is_moving e.reply ≡ false
      → let r = receipt w.scene.numbers.draw v.worker e in
      let one = rests_on last.shown r in
      MayReply (moment_of (beginning start) (receipts_of w.scene.log)) r r.reply
      → IsCovered v.own.turns one
      → OwnPart lists start w.scene.settled w.turns (w.scene.log ++ mark v.worker one (Some r) ∷ []) w.home
      (set w.scene.views w.scene.seat (view_after_draw v false (moves w.scene.log) r (map (touched_turn one r.call) v.own.turns)))
  still_keeps_own e none still may covered =
      let r = receipt w.scene.numbers.draw v.worker e in
      let one = rests_on last.shown r in
      let log = w.scene.log ++ mark v.worker one (Some r) ∷ [] in
      let is = last-is bucket_of good lists all most base start w in
      let shown : (machine_next last r).shown ≡ last.shown = (receipt-still (moment_of (beginning start) (receipts_of w.scene.log)) r is may still).shown in
      let next = next-after start w.scene.log v.worker one r in
      touch_keeps log one r.call
      (λ x here. ap (λ (m : Machine). own_in m x) next ∙ own-stays last r x x is here (subst (λ (s : Shown). Contains s.states x) (sym shown) here) refl)
      covered
      (view_after_draw v false (moves w.scene.log) r (map (touched_turn one r.call) v.own.turns))
      (marked-more one r refl) (marks-more one (Some r))
      (λ t has f. subst (λ (o : Option ℕ). FitsOwn lists (machine_of start (receipts_of log)) w.scene.settled w.turns log v.worker o t) (sym none) f)
      (λ t has. has)

  -- a trial
  pub trial_keeps_own : OwnPart lists start w.scene.settled w.turns (w.scene.log ++ mark v.worker None None ∷ []) w.home
      (set w.scene.views w.scene.seat (view_after_trial v w.scene.numbers.draw (moves w.scene.log)))
  trial_keeps_own =
      let log = w.scene.log ++ mark v.worker None None ∷ [] in
      let same : receipts_of log ≡ receipts_of w.scene.log = receipts-append w.scene.log (mark v.worker None None) ∙ append-nil (receipts_of w.scene.log) in
      let left : (slot : ℕ) → listed_at lists (machine_of start (receipts_of log)) w.scene.settled slot ≡ listed_at lists last w.scene.settled slot =
      λ slot. ap (λ (rs : List Receipt). listed_at lists (machine_of start rs) w.scene.settled slot) same in
      let draws = w.scene.turn.draws in
      row_keeps bucket_of good lists all most base start w log w.scene.settled None (view_after_trial v w.scene.numbers.draw (moves w.scene.log))
      (marked-append start.shown w.scene.log (mark v.worker None None) w.own.marked tt)
      (λ slot unheld. left slot) (λ slot p unheld at is. nothing p.0.sid is) (marks-more None None)
      (λ e has.
      let m = has_map tried_turn v.own.turns e has in
      let f = mine bucket_of good lists all most base start w m.0 m.1 in
      subst (FitsOwn lists (machine_of start (receipts_of log)) w.scene.settled w.turns log v.worker (Some w.scene.numbers.draw)) m.2 record {
        word = f.word;
        keeps = left m.0.slot ∙ f.keeps;
        no_later = λ l x y k tried is late less there rests.
            let at : w.scene.numbers.draw ≡ x = cc in
            ⊎_elim
            (λ (old : (get_elem? w.scene.log y ≡ some k) × (y < length w.scene.log)). let b = old.1 in absurd (omega arith))
            (λ (new : (mark v.worker None None ≡ k) × (y ≡ length w.scene.log)). let b = new.1 in absurd (omega arith))
            (at_end w.scene.log (mark v.worker None None) k y there);
      })
