-- A move: what slots list, and own parts, after it.
use Rattle.std.proofs.Common.{◌≡◌, ℕ, Bool, true, false, List, [], ◌∷◌, ◌++◌, map, set, cond, Some, None, Option, refl, sym, ap, ◌∙◌, subst, inl, inr, Contains, eq-eqb, ne_eqb}
use Rattle.std.specs.Prelude.{if◌then◌else◌}
use Rattle.std.specs.Option.{option_map}
use Rattle.std.proofs.lemmas.Bool.{cases_Bool}
use mathlib.Core.Logic.{dite}
use native.Mathlib.Decide.{ℕ_discrete}
use Rattle.xf_types.specs.declared.call.Receipt.{Receipt}
use Rattle.xf_types.specs.declared.state.Sa.{Sa}
use Rattle.xf_types.specs.Machine.{Machine, Own}
use Rattle.xf_types.specs.OwnParts.{own_in, new_own}
use Rattle.xf_types.specs.Moves.{is_moving}
use Rattle.xf_types.specs.History.{MayReply, IsLegalFrom, beginning, machine_of, machine_next, moment_of}
use Rattle.xf_laws.specs.LeaveLaws.{is_listed}
use Rattle.xf_late.specs.Rests.{rests_on, own_touched}
use Rattle.xf_late.proofs.Owns.{own-stays, own-comes, touched-other}
use Rattle.xf_late.proofs.Late.{legal-more}
use Rattle.xf_views.specs.declared.entry.Entry.{Entry}
use Rattle.xf_views.specs.declared.entry.Listed.{Listed}
use Rattle.xf_views.specs.declared.view.View.{View}
use Rattle.xf_views.specs.declared.view.SlotTurn.{SlotTurn}
use Rattle.xf_views.specs.Log.{Mark, mark, receipt, receipts_of, moves}
use Rattle.xf_views.specs.Views.{view_after_draw}
use Rattle.xf_views.proofs.Logs.{receipts-append}
use Rattle.xf_invariant.specs.Meaning.{Told, told, told_after, told_after_moves, Opens}
use Rattle.xf_invariant.specs.PinPart.{Has}
use Rattle.xf_invariant.proofs.ImageDraws.{move_keeps_image}
use Rattle.xf_ownpart.specs.Lists.{ListsStates, IsListing}
use Rattle.xf_ownpart.specs.OwnPart.{FitsOwn, OwnPart, listed_at, with_own, listing}
use Rattle.xf_ownpart.specs.Turns.{IsHeld, IsCovered, KeepsSlots, own_moved, moved_turn}
use Rattle.xf_ownpart.specs.OwnLaws.{Shift, last_of}
use Rattle.xf_ownpart.proofs.Haves.{has_map}
use Rattle.xf_ownpart.proofs.Slots.{nothing, listed-one, same-slot}
use Rattle.xf_ownpart.proofs.Moments.{opened, last-is, lists-now, lists-after, next-after}
use Rattle.xf_ownpart.proofs.OwnSeats.{mine, not-rested, row_keeps}
use Rattle.xf_ownpart.proofs.OwnDraws.{marked-more, marks-more}

-- the own part of a state after a move, by what was kept at its slot: it was there, or it is new
moved-same : (one : Option ℕ) (r : Receipt) (l : Listed) (x : Sa) → l.state.sid ≡ x.sid → own_moved one r.call (Some l) x ≡ own_touched one r.call l.time l.state l.own
moved-same one r l x same = ap (λ (b : Bool). cond b (own_touched one r.call l.time l.state l.own) (new_own x.spec)) (eq-eqb l.state.sid x.sid same)

moved-new : (one : Option ℕ) (r : Receipt) (l : Listed) (x : Sa) → (l.state.sid ≡ x.sid → ⊥) → own_moved one r.call (Some l) x ≡ new_own x.spec
moved-new one r l x other = ap (λ (b : Bool). cond b (own_touched one r.call l.time l.state l.own) (new_own x.spec)) (ne_eqb l.state.sid x.sid other)

module _ (bucket_of : Sa → ℕ) (good : List ℕ → Told → Type 0) (lists : List ℕ → ℕ → Option (Sa × ℕ)) (all : IsListing good lists) (most : ℕ) (base : List ℕ) (start : Machine) (w : Shift bucket_of good lists most base start) where
  abbrev last : Machine
  last = last_of bucket_of good lists most base start w

  abbrev v : View
  v = w.scene.view

  module _ (e : Entry) (turn : v.hand.has_turn ≡ true) (opens : v.hand.writing ≡ true) (yet : v.hand.drawn ≡ false) (none : v.hand.trial ≡ None) (moving : is_moving e.reply ≡ true) where
    abbrev r : Receipt
    r = receipt w.scene.numbers.draw v.worker e

    abbrev one : Option ℕ
    one = rests_on last.shown r

    abbrev log : List Mark
    log = w.scene.log ++ mark v.worker one (Some r) ∷ []

    abbrev next : Machine
    next = machine_of start (receipts_of log)

    module _ (may : MayReply (moment_of (beginning start) (receipts_of w.scene.log)) r r.reply)
        (leads : (t : Told) → Opens good base t → good v.image.kept (told_after_moves bucket_of t (moves w.scene.log)) → good v.image.words (told_after bucket_of (told_after_moves bucket_of t (moves w.scene.log)) r))
        (keeps : KeepsSlots lists v.own.turns v.image.kept v.image.words) (covered : IsCovered v.own.turns one) where
      known : v.image.words ≡ w.scene.words
      known = (w.scene.image.each w.scene.seat v w.scene.there w.scene.here).image turn

      kept : w.scene.settled ≡ v.image.kept
      kept = (w.scene.image.each w.scene.seat v w.scene.there w.scene.here).settled opens ∙ ap (λ (c : Bool). if c then w.scene.words else v.image.kept) yet

      legal : IsLegalFrom (beginning start) (receipts_of log)
      legal = subst (IsLegalFrom (beginning start)) (sym (receipts-append w.scene.log (mark v.worker one (Some r)))) (legal-more (beginning start) (receipts_of w.scene.log) (r ∷ []) w.legal.replies (may, tt))

      -- the new image lists the states after the move
      well : ListsStates lists v.image.words next.shown
      well =
          lists-after bucket_of good lists base start w.opens all log v.image.words legal
          (subst (λ (image : List ℕ). good image (told_after_moves bucket_of (told start.shown w.opens.ids) (moves log))) (sym known)
          ((move_keeps_image bucket_of good base most w.scene.made w.scene.numbers w.scene.owners w.scene.log w.scene.words w.scene.settled w.scene.views w.scene.turn w.scene.image w.scene.seat v w.scene.there w.scene.here
          one e [] turn opens yet none moving leads).stands (told start.shown w.opens.ids) (opened bucket_of good lists base start w.opens)))

      before : ListsStates lists w.scene.settled last.shown
      before = lists-now bucket_of good lists all most base start w

      is : next ≡ machine_next last r
      is = next-after start w.scene.log v.worker one r

      there : (x : Sa) → Contains next.shown.states x → Contains (machine_next last r).shown.states x
      there x h = subst (λ (m : Machine). Contains m.shown.states x) is h

      -- a state that was listed
      stays : (x y : Sa) → Contains last.shown.states y → Contains next.shown.states x → x.sid ≡ y.sid → own_in next x ≡ own_touched one r.call last.shown.time y (own_in last y)
      stays x y h k same = ap (λ (m : Machine). own_in m x) is ∙ own-stays last r x y (last-is bucket_of good lists all most base start w) h (there x k) same

      -- a slot whose turn isn't held
      left : (slot : ℕ) → (IsHeld v.own.turns slot → ⊥) → listed_at lists next v.image.words slot ≡ listed_at lists last w.scene.settled slot
      left slot unheld =
          let same : lists v.image.words slot ≡ lists w.scene.settled slot = keeps.others slot unheld ∙ ap (λ (image : List ℕ). lists image slot) (sym kept) in
          same-slot lists last next w.scene.settled v.image.words slot same
          (λ p at. stays p.0 p.0 (before.listed slot p at).0 (well.listed slot p (same ∙ at)).0 refl
          ∙ touched-other one r.call last.shown.time p.0 (own_in last p.0) (not-rested bucket_of good lists all most base start w one covered slot p unheld at))

      -- a state that is listed where no state of its id was is new
      is-new : (slot : ℕ) (p : Sa × ℕ) → lists v.image.words slot ≡ Some p → ((q : Sa × ℕ) → lists w.scene.settled slot ≡ Some q → q.0.sid ≡ p.0.sid → ⊥) → own_in next p.0 ≡ new_own p.0.spec
      is-new slot p at other = elim (cases_Bool (is_listed p.0.sid last.shown.states)) [
        | inl listed ↦
            let y = listed-one p.0.sid last.shown.states listed in
            let z = before.placed y.0 y.1 in
            let q : Sa × ℕ = (y.0, last.shown.time) in
            let same : z.0 ≡ slot = keeps.stays z.0 slot q p (ap (λ (image : List ℕ). lists image z.0) (sym kept) ∙ z.1) at y.2 in
            absurd (other q (ap (lists w.scene.settled) (sym same) ∙ z.1) y.2)
        | inr no_one ↦
            ap (λ (m : Machine). own_in m p.0) is
            ∙ own-comes last r p.0 (last-is bucket_of good lists all most base start w) (there p.0 (well.listed slot p at).0) no_one
      ]

      -- what was kept at a slot says the own part of what is listed there
      own-moved : (slot : ℕ) (p : Sa × ℕ) → lists v.image.words slot ≡ Some p → own_in next p.0 ≡ own_moved one r.call (listed_at lists last w.scene.settled slot) p.0
      own-moved slot p at = by (lists w.scene.settled slot) refl
        where
          by : (o : Option (Sa × ℕ)) → lists w.scene.settled slot ≡ o → own_in next p.0 ≡ own_moved one r.call (option_map (with_own last) o) p.0
          by None q = is-new slot p at (λ z k same. nothing z (sym q ∙ k))
          by (Some z) q = dite (ℕ_discrete z.0.sid p.0.sid)
              (λ same.
              stays p.0 z.0 (before.listed slot z q).0 (well.listed slot p at).0 (sym same)
              ∙ ap (λ (time : ℕ). own_touched one r.call time z.0 (own_in last z.0)) (sym (before.listed slot z q).1)
              ∙ sym (moved-same one r (with_own last z) p.0 same))
              (λ other.
              is-new slot p at (λ y k same. other (ap (λ (o : Option (Sa × ℕ)). sid_of o) (sym q ∙ k) ∙ same))
              ∙ sym (moved-new one r (with_own last z) p.0 other))
            where
              sid_of : Option (Sa × ℕ) → ℕ
              sid_of None = 0
              sid_of (Some y) = y.0.sid

      fits : (t : SlotTurn) → Has (map (moved_turn lists v.image.words one r.call) v.own.turns) t → FitsOwn lists next v.image.words w.turns log v.worker v.hand.trial t
      fits t has =
          let m = has_map (moved_turn lists v.image.words one r.call) v.own.turns t has in
          let f = mine bucket_of good lists all most base start w m.0 m.1 in
          subst (FitsOwn lists next v.image.words w.turns log v.worker v.hand.trial) m.2 record {
            word = f.word;
            keeps = slot m.0.slot ∙ ap (λ (o : Option Listed). option_map (λ (x : Sa × ℕ). listing x.0 x.1 (own_moved one r.call o x.0)) (lists v.image.words m.0.slot)) f.keeps;
            no_later = λ l x y k tried there late less at rests. nothing x (sym none ∙ late);
          }
        where
          slot : (k : ℕ) → listed_at lists next v.image.words k ≡ option_map (λ (x : Sa × ℕ). listing x.0 x.1 (own_moved one r.call (listed_at lists last w.scene.settled k) x.0)) (lists v.image.words k)
          slot k = by (lists v.image.words k) refl
            where
              by : (o : Option (Sa × ℕ)) → lists v.image.words k ≡ o → option_map (with_own next) o ≡ option_map (λ (x : Sa × ℕ). listing x.0 x.1 (own_moved one r.call (listed_at lists last w.scene.settled k) x.0)) o
              by None q = refl
              by (Some p) q = ap (λ (own : Own). Some (listing p.0 p.1 own)) (own-moved k p q)

      pub move_keeps_own : OwnPart lists start w.scene.words w.turns log w.home
          (set w.scene.views w.scene.seat (view_after_draw v true (moves w.scene.log ++ r ∷ []) r (map (moved_turn lists v.image.words one r.call) v.own.turns)))
      move_keeps_own =
          let z = view_after_draw v true (moves w.scene.log ++ r ∷ []) r (map (moved_turn lists v.image.words one r.call) v.own.turns) in
          subst (λ (image : List ℕ). OwnPart lists start image w.turns log w.home (set w.scene.views w.scene.seat z)) known
          (row_keeps bucket_of good lists all most base start w log v.image.words one z
          (marked-more bucket_of good lists all most base start w one r refl) left
          (not-rested bucket_of good lists all most base start w one covered) (marks-more bucket_of good lists all most base start w one (Some r)) fits)
