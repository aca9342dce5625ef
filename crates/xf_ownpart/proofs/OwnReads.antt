-- The end of a read: a trial's receipt comes to stand before others.
use Rattle.std.proofs.Common.{◌≡◌, ◌≢◌, ℕ, suc, ◌+◌, ◌<◌, true, false, List, [], ◌∷◌, ◌++◌, set, take, drop, map, Some, None, Option, refl, sym, ap, ◌∙◌, subst, arith, ⊎_elim, inl, inr, Contains}
use mathlib.Core.Option.{some}
use lib.ListN.{get_elem?}
use Rattle.xf_types.specs.declared.call.Receipt.{Receipt}
use Rattle.xf_types.specs.declared.state.Sa.{Sa}
use Rattle.xf_types.specs.Machine.{Machine, Shown}
use Rattle.xf_types.specs.OwnParts.{own_in}
use Rattle.xf_types.specs.Moves.{is_moving}
use Rattle.xf_types.specs.History.{Moment, MayReply, IsLegalFrom, beginning, machine_of, moment_of}
use Rattle.xf_types.specs.IsMachine.{IsMachine}
use Rattle.xf_laws.proofs.FoldLemmas.{folded-from}
use Rattle.xf_laws.proofs.MachineLemmas.{moments-kept}
use Rattle.xf_late.specs.Rests.{rests_on, own_touched}
use Rattle.xf_late.specs.LateLaws.{AreStill, IsAway, IsLate}
use Rattle.xf_late.proofs.Still.{still-shown}
use Rattle.xf_late.proofs.Late.{legal-both, moment-joins, late-legal, late-own}
use Rattle.xf_views.specs.declared.entry.Entry.{Entry}
use Rattle.xf_views.specs.declared.entry.Listed.{Listed}
use Rattle.xf_views.specs.declared.view.View.{View}
use Rattle.xf_views.specs.declared.view.SlotTurn.{SlotTurn}
use Rattle.xf_views.specs.Hands.{is_same}
use Rattle.xf_views.specs.Log.{Mark, mark, receipt, receipts_of, moves}
use Rattle.xf_views.specs.Views.{view_after_generation}
use Rattle.xf_views.proofs.Lists.{at_set}
use Rattle.xf_invariant.specs.Meaning.{Told}
use Rattle.xf_invariant.proofs.ImageSayings.{same-began}
use Rattle.xf_ownpart.specs.Lists.{IsListing}
use Rattle.xf_ownpart.specs.OwnPart.{OwnPart}
use Rattle.xf_ownpart.specs.Turns.{Keeps, IsCovered, tried_of, touched_turn}
use Rattle.xf_ownpart.specs.OwnLaws.{Shift, last_of}
use Rattle.xf_ownpart.proofs.Haves.{has_filter}
use Rattle.xf_ownpart.proofs.Marked.{shown_after_marks, marks-moves, marked-set, marked-behind, marked-still}
use Rattle.xf_ownpart.proofs.Parts.{receipts-part, receipts-set, at_drop, receipts-all}
use Rattle.xf_ownpart.proofs.Slots.{nothing}
use Rattle.xf_ownpart.proofs.OwnSeats.{mine, quiet}
use Rattle.xf_ownpart.proofs.OwnDraws.{touch_keeps}

module _ (bucket_of : Sa → ℕ) (good : List ℕ → Told → Type 0) (lists : List ℕ → ℕ → Option (Sa × ℕ)) (all : IsListing good lists) (most : ℕ) (base : List ℕ) (start : Machine) (w : Shift bucket_of good lists most base start) where
  abbrev last : Machine
  last = last_of bucket_of good lists most base start w

  abbrev v : View
  v = w.scene.view

  -- no receipt comes to stand
  pub look_keeps_own : OwnPart lists start w.scene.settled w.turns w.scene.log w.home (set w.scene.views w.scene.seat (view_after_generation v w.scene.numbers.generation (moves w.scene.log) [] v.own.turns))
  look_keeps_own =
      quiet bucket_of good lists all most base start w (view_after_generation v w.scene.numbers.generation (moves w.scene.log) [] v.own.turns)
      (λ e has. let f = mine bucket_of good lists all most base start w e has in record {
        word = f.word;
        keeps = f.keeps;
        no_later = λ l x y m tried is late less there rests. nothing x late;
      })

  -- the read ends the same while a trial waits
  module _ (x : ℕ) (trial : v.hand.trial ≡ Some x) (same : is_same v.hand.began w.scene.numbers.generation ≡ true) where
    abbrev front : List Receipt
    front = receipts_of (take x w.scene.log)

    abbrev rest : List Receipt
    rest = receipts_of (drop (suc x) w.scene.log)

    -- the moment at which its receipt may come to stand
    abbrev pub place : Moment
    place = moment_of (beginning start) front

    pub blank : get_elem? w.scene.log x ≡ some (mark v.worker None None)
    blank = ((w.scene.turn.each w.scene.seat v w.scene.there w.scene.here).trial x trial).0

    parts : receipts_of w.scene.log ≡ front ++ rest
    parts = receipts-part w.scene.log x v.worker blank

    pub legal-parts : IsLegalFrom (beginning start) (front ++ rest)
    legal-parts = subst (IsLegalFrom (beginning start)) parts w.legal.replies

    legal-rest : IsLegalFrom place rest
    legal-rest = (legal-both (beginning start) front rest legal-parts).1

    pub place-is : IsMachine place.machine
    place-is = moments-kept (beginning start) front w.opens.machine

    -- a mark behind it has a greater number
    behind : (j : ℕ) (m : Mark) → get_elem? (drop (suc x) w.scene.log) j ≡ some m → get_elem? w.scene.log (suc x + j) ≡ some m
    behind j m at = at_drop w.scene.log (suc x) j (suc x + j) m refl at

    later : (j : ℕ) → x < suc x + j
    later j = omega arith

    still-each : (j : ℕ) (m : Mark) (q : Receipt) → get_elem? (drop (suc x) w.scene.log) j ≡ some m → m.receipt ≡ Some q → is_moving q.reply ≡ false
    still-each j m q at got =
        let s = same-began v.hand.began w.scene.numbers.generation same in
        (w.scene.image.each w.scene.seat v w.scene.there w.scene.here).trial x w.scene.numbers.generation trial s.0 s.1 refl (suc x + j) m q (later j) (behind j m at) got

    still-rest : AreStill rest
    still-rest = receipts-all (λ q. is_moving q.reply ≡ false) (drop (suc x) w.scene.log) still-each

    -- what is shown there is what is shown at the end
    pub shown-there : last.shown ≡ place.machine.shown
    shown-there =
        ap (λ (rs : List Receipt). (machine_of start rs).shown) parts
        ∙ ap (λ (t : Moment). t.machine.shown) (moment-joins (beginning start) front rest)
        ∙ still-shown place rest place-is legal-rest still-rest

    shown-marks : shown_after_marks start.shown (take x w.scene.log) ≡ place.machine.shown
    shown-marks = marks-moves start.shown (take x w.scene.log) ∙ folded-from (beginning start) front w.opens.machine (legal-both (beginning start) front rest legal-parts).0

    -- on what the receipts behind it rest
    rests-each : (j : ℕ) (m : Mark) (q : Receipt) → get_elem? (drop (suc x) w.scene.log) j ≡ some m → m.receipt ≡ Some q → m.rests ≡ rests_on place.machine.shown q
    rests-each j m q at got =
        marked-still (shown_after_marks start.shown (take x w.scene.log)) (drop (suc x) w.scene.log) (marked-behind start.shown w.scene.log x v.worker blank w.own.marked) still-each j m q at got
        ∙ ap (λ (s : Shown). rests_on s q) shown-marks

    -- none rests on a state that a turn keeps that was held at the draw
    pub kept-elsewhere : (l : Listed) → Keeps (tried_of v.own.turns) l → (j : ℕ) (m : Mark) (q : Receipt) → get_elem? (drop (suc x) w.scene.log) j ≡ some m → m.receipt ≡ Some q → rests_on place.machine.shown q ≡ Some l.state.sid → ⊥
    kept-elsewhere l k j m q at got is =
        let h = has_filter (λ (e : SlotTurn). e.tried) v.own.turns k.turn k.held in
        (mine bucket_of good lists all most base start w k.turn h.0).no_later l x (suc x + j) m h.1 k.is trial (later j) (behind j m at) (rests-each j m q at got ∙ is)

    pub rest-still : AreStill rest
    rest-still = still-rest

    pub rest-legal : IsLegalFrom place rest
    rest-legal = legal-rest

    pub last-parts : last ≡ (moment_of place rest).machine
    last-parts = ap (machine_of start) parts ∙ ap (λ (t : Moment). t.machine) (moment-joins (beginning start) front rest)

    -- its receipt comes to stand
    module _ (e : Entry) (still : is_moving e.reply ≡ false) where
      abbrev r : Receipt
      r = receipt x v.worker e

      abbrev one : Option ℕ
      one = rests_on last.shown r

      abbrev log : List Mark
      log = set w.scene.log x (mark v.worker one (Some r))

      module _ (may : MayReply place r r.reply) (covered : IsCovered (tried_of v.own.turns) one) where
        one-there : one ≡ rests_on place.machine.shown r
        one-there = ap (λ (s : Shown). rests_on s r) shown-there

        away : (j : ℕ) (m : Mark) (q : Receipt) → get_elem? (drop (suc x) w.scene.log) j ≡ some m → m.receipt ≡ Some q → IsAway v.worker (rests_on place.machine.shown r) place.machine.shown q
        away j m q at got =
            let number = w.scene.turn.numbered (suc x + j) m q (behind j m at) got in
            record {
              still = still-each j m q at got;
              other = λ same. ((w.scene.turn.each w.scene.seat v w.scene.there w.scene.here).trial x trial).1 (suc x + j) m (later j) (behind j m at) (sym number.1 ∙ same);
              elsewhere = λ sid is rests.
                  let k = covered sid (one-there ∙ is) in
                  kept-elsewhere k.0 k.1 j m q at got (rests ∙ ap Some (sym k.2));
            }

        pub late : IsLate (beginning start) front rest r
        late = record { may = may; still = still; away = receipts-all (IsAway v.worker (rests_on place.machine.shown r) place.machine.shown) (drop (suc x) w.scene.log) away }

        pub set-parts : receipts_of log ≡ front ++ r ∷ rest
        set-parts = receipts-set w.scene.log x v.worker one r blank

        pub settle-legal : IsLegalFrom (beginning start) (receipts_of log)
        settle-legal = subst (IsLegalFrom (beginning start)) (sym set-parts) (late-legal (beginning start) front rest r w.opens.machine late legal-parts)

        own : (y : Sa) → Contains last.shown.states y → own_in (machine_of start (receipts_of log)) y ≡ own_touched one r.call last.shown.time y (own_in last y)
        own y here =
            ap (λ (rs : List Receipt). own_in (machine_of start rs) y) set-parts
            ∙ late-own (beginning start) front rest r w.opens.machine late legal-parts y (subst (λ (s : Shown). Contains s.states y) shown-there here)
            ∙ ap (λ (s : Shown). own_touched (rests_on s r) r.call s.time y (own_in (machine_of start (front ++ rest)) y)) (sym shown-there)
            ∙ ap (λ (rs : List Receipt). own_touched one r.call last.shown.time y (own_in (machine_of start rs) y)) (sym parts)

        held : IsCovered v.own.turns one
        held sid is =
            let k = covered sid is in
            (k.0, record { turn = k.1.turn; held = (has_filter (λ (t : SlotTurn). t.tried) v.own.turns k.1.turn k.1.held).0; is = k.1.is }, k.2)

        pub settle_keeps_own : OwnPart lists start w.scene.settled w.turns log w.home
            (set w.scene.views w.scene.seat (view_after_generation v w.scene.numbers.generation (moves w.scene.log) (r ∷ []) (map (touched_turn one r.call) v.own.turns)))
        settle_keeps_own =
            touch_keeps bucket_of good lists all most base start w log one r.call own held
            (view_after_generation v w.scene.numbers.generation (moves w.scene.log) (r ∷ []) (map (touched_turn one r.call) v.own.turns))
            (marked-set start.shown w.scene.log x v.worker one r blank still (one-there ∙ ap (λ (s : Shown). rests_on s r) (sym shown-marks)) w.own.marked)
            (λ y m at. ⊎_elim
            (λ (new : (y ≡ x) × (mark v.worker one (Some r) ≡ m)). inr (sym (ap (λ (z : Mark). z.rests) new.1)))
            (λ (old : (y ≢ x) × (get_elem? w.scene.log y ≡ some m)). inl old.1)
            (at_set w.scene.log x y (mark v.worker one (Some r)) m at))
            (λ t has f. f)
            (λ t has. has)
