-- Draws: one number more, with its mark.
use Rattle.std.proofs.Common.{◌≡◌, ◌≢◌, ℕ, ◌+◌, ◌%◌, ◌<◌, ◌≤◌, Bool, true, false, true≢false, List, [], ◌∷◌, ◌++◌, length, set, Some, None, Option, refl, sym, ap, ◌∙◌, subst, arith, eq-eqb, ne_eqb, length-append, ⊎_elim}
use Rattle.std.specs.Prelude.{if◌then◌else◌}
use mathlib.Core.Option.{some}
use mathlib.Core.Logic.{dite}
use native.Mathlib.Decide.{ℕ_discrete}
use lib.ListN.{get_elem?}
use Rattle.xf_types.specs.declared.call.Receipt.{Receipt}
use Rattle.xf_types.specs.Moves.{is_moving, moves_of}
use Rattle.xf_views.specs.declared.entry.Entry.{Entry}
use Rattle.xf_views.specs.declared.view.View.{View}
use Rattle.xf_views.specs.declared.view.SlotTurn.{SlotTurn}
use Rattle.xf_views.specs.Log.{Numbers, Mark, mark, receipt, with_receipt, moves, by_worker, tickets_of, marks_of, IsFront}
use Rattle.xf_views.specs.Views.{view_after_draw, view_after_trial}
use Rattle.xf_views.specs.TurnPart.{one_if, IsInTurn, TurnPart}
use Rattle.std.proofs.lemmas.List.{append-nil}
use Rattle.xf_views.proofs.Lists.{at_snoc, at_last, at_longer, set_here, at_below, at_end}
use Rattle.xf_views.proofs.Logs.{own-mine, own-other, moves-append, moves-move, moves-still, moves-blank, marks-append}
use Rattle.xf_views.proofs.Fronts.{front_all, front_more}
use Rattle.xf_views.proofs.Seats.{each_set, one_seat_set, some_set, other_worker, no_turn}

module _ (most made : ℕ) (n : Numbers) (owners : List ℕ) (log : List Mark) (views : List View) (a : TurnPart most made n owners log views) (i : ℕ) (v : View) (at : get_elem? views i ≡ some v) (here : v.here ≡ true) where
  others_worker : (j : ℕ) (u : View) → j ≢ i → get_elem? views j ≡ some u → u.here ≡ true → v.worker ≢ u.worker
  others_worker = other_worker most made n owners log views a i v at here

  others_turn : (j : ℕ) (u : View) → j ≢ i → get_elem? views j ≡ some u → u.here ≡ true → v.hand.has_turn ≡ true → u.hand.has_turn ≡ true → ⊥
  others_turn = no_turn most made n owners log views a i v at here

  -- a draw, of whatever kind
  draws_keep : (s : Option ℕ) (o : Option Receipt) (w : View) → v.knows.count < most → w.here ≡ true → w.worker ≡ v.worker → v.hand.writing ≡ w.hand.writing → w.knows.seen ≡ moves (log ++ mark v.worker s o ∷ [])
      → ((r : Receipt) → o ≡ Some r → (r.number ≡ n.draw) × (r.worker ≡ v.worker))
      → (n.generation % 2 ≡ 0 → length (moves (log ++ mark v.worker s o ∷ [])) ≡ length (moves log))
      → ((j : ℕ) (u : View) → j ≢ i → get_elem? views j ≡ some u → u.here ≡ true → u.hand.writing ≡ true → length (moves (log ++ mark v.worker s o ∷ [])) ≡ length (moves log))
      → IsInTurn made (record n { draw = n.draw + 1 }) owners (log ++ mark v.worker s o ∷ []) w
      → TurnPart most made (record n { draw = n.draw + 1 }) owners (log ++ mark v.worker s o ∷ []) (set views i w)
  draws_keep s o w room here' same writing all named even others fits =
      let f = a.each i v at here in
      let log' = log ++ mark v.worker s o ∷ [] in
      let count_v : marks_of v.worker log' ≡ marks_of v.worker log + 1 = marks-append v.worker log (mark v.worker s o) ∙ ap (λ (b : Bool). marks_of v.worker log + (if b then 1 else 0)) (eq-eqb v.worker v.worker refl) in
      let count_u : (k : ℕ) → v.worker ≢ k → marks_of k log' ≡ marks_of k log = λ k ne. marks-append k log (mark v.worker s o) ∙ (ap (λ (b : Bool). marks_of k log + (if b then 1 else 0)) (ne_eqb v.worker k ne) ∙ omega arith) in
      record {
        few = a.few;
        tickets = a.tickets;
        draws = length-append log (mark v.worker s o ∷ []) ∙ ap (λ k. k + 1) a.draws;
        served = a.served;
        owners_made = a.owners_made;
        marks_made = λ x m e. ⊎_elim (λ (t : get_elem? log x ≡ some m). a.marks_made x m t) (λ (t : mark v.worker s o ≡ m). subst (λ (z : Mark). z.by < made) t f.worker) (at_snoc log (mark v.worker s o) m x e);
        low = λ k. dite (ℕ_discrete v.worker k)
            (λ e. subst (λ z. tickets_of z owners + marks_of z log' ≤ most) e (let c = f.count in omega arith))
            (λ ne. let c = count_u k ne in let l = a.low k in omega arith);
        numbered = λ x m r e q. ⊎_elim
            (λ (t : (get_elem? log x ≡ some m) × (x < length log)). a.numbered x m r t.0 q)
            (λ (t : (mark v.worker s o ≡ m) × (x ≡ length log)). let c = named r (ap (λ (z : Mark). z.receipt) t.0 ∙ q) in (c.0 ∙ (sym a.draws ∙ sym t.1), c.1 ∙ ap (λ (z : Mark). z.by) t.0))
            (at_end log (mark v.worker s o) m x e);
        one_seat = one_seat_set views i v w at here same a.one_seat;
        even = λ h. even h ∙ a.even h;
        odd = λ h. some_set views i v w at (λ u. u.hand.writing ≡ true) here' (λ q. sym writing ∙ q) (a.odd h);
        longest = (i, w, set_here views i w (at_below views i v at), here', all);
        each = each_set views i v w at (IsInTurn made (record n { draw = n.draw + 1 }) owners log')
            (λ j u apart e h. let g = a.each j u e h in let ne = others_worker j u apart e h in record {
              worker = g.worker;
              count = let c = count_u u.worker ne in let d = g.count in omega arith;
              ticket = g.ticket;
              turn = g.turn;
              writes = λ q. let p = g.writes q in (p.0, p.1, others j u apart e h q ∙ p.2);
              shut = g.shut;
              seen = subst (IsFront u.knows.seen) (sym (moves-append log v.worker s o)) (front_more u.knows.seen (moves log) (moves_of (with_receipt o [])) g.seen);
              mine = g.mine ∙ sym (own-other u.worker v.worker log s o ne);
              trial = λ x q. let p = g.trial x q in (
                at_longer log (mark v.worker s o ∷ []) x (mark u.worker None None) p.0,
                λ k m lt e'. ⊎_elim (λ (t : get_elem? log k ≡ some m). p.1 k m lt t) (λ (t : mark v.worker s o ≡ m). λ same'. ne (ap (λ (z : Mark). z.by) t ∙ same')) (at_snoc log (mark v.worker s o) m k e'),
              );
            })
            fits;
      }

  drawn_count : (s : Option ℕ) (o : Option Receipt) → v.knows.count + 1 ≡ tickets_of v.worker owners + marks_of v.worker (log ++ mark v.worker s o ∷ [])
  drawn_count s o = let c = (a.each i v at here).count in let d : marks_of v.worker (log ++ mark v.worker s o ∷ []) ≡ marks_of v.worker log + 1 = marks-append v.worker log (mark v.worker s o) ∙ ap (λ (b : Bool). marks_of v.worker log + (if b then 1 else 0)) (eq-eqb v.worker v.worker refl) in omega arith

  -- a move, under the turn
  pub move_keeps : (s : Option ℕ) (e : Entry) (turns : List SlotTurn) → v.hand.has_turn ≡ true → v.hand.writing ≡ true → v.hand.drawn ≡ false → v.hand.trial ≡ None → v.knows.count < most → is_moving e.reply ≡ true
      → let r = receipt n.draw v.worker e in TurnPart most made (record n { draw = n.draw + 1 }) owners (log ++ mark v.worker s (Some r) ∷ []) (set views i (view_after_draw v true (moves log ++ r ∷ []) r turns))
  move_keeps s e turns turn is yet none room moving =
      let f = a.each i v at here in
      let r = receipt n.draw v.worker e in
      let w = view_after_draw v true (moves log ++ r ∷ []) r turns in
      let k = f.writes is in
      let odd = k.1 in
      let all = moves-move log v.worker s r moving in
      let len : length (moves (log ++ mark v.worker s (Some r) ∷ [])) ≡ length (moves log) + 1 = ap length all ∙ length-append (moves log) (r ∷ []) in
      let zero_yet : one_if v.hand.drawn ≡ 0 = ap one_if yet in
      let was = k.2 in
      draws_keep s (Some r) w room here refl refl (sym all) (λ q e'. let same : r ≡ q = cc in (ap (λ (z : Receipt). z.number) (sym same), ap (λ (z : Receipt). z.worker) (sym same)))
      (λ h. absurd (omega arith))
      (λ j u apart e' h q. absurd (others_turn j u apart e' h turn ((a.each j u e' h).writes q).0))
      record {
        worker = f.worker;
        count = drawn_count s (Some r);
        ticket = f.ticket;
        turn = f.turn;
        writes = λ q. (turn, odd, omega arith);
        shut = λ q. absurd (true≢false (sym is ∙ q));
        seen = subst (IsFront (moves log ++ r ∷ [])) (sym all) (front_all (moves log ++ r ∷ []));
        mine = ap (λ (l : List Receipt). l ++ r ∷ []) f.mine ∙ sym (own-mine v.worker log s (Some r));
        trial = λ x q. absurd (cc);
      }

  -- another receipt, under the turn or a slot's
  pub still_keeps : (s : Option ℕ) (e : Entry) (turns : List SlotTurn) → v.hand.writing ≡ false → v.hand.trial ≡ None → v.knows.count < most → is_moving e.reply ≡ false
      → let r = receipt n.draw v.worker e in TurnPart most made (record n { draw = n.draw + 1 }) owners (log ++ mark v.worker s (Some r) ∷ []) (set views i (view_after_draw v false (moves log) r turns))
  still_keeps s e turns not none room still =
      let f = a.each i v at here in
      let r = receipt n.draw v.worker e in
      let w = view_after_draw v false (moves log) r turns in
      let all = moves-still log v.worker s r still in
      draws_keep s (Some r) w room here refl refl (sym all) (λ q e'. let same : r ≡ q = cc in (ap (λ (z : Receipt). z.number) (sym same), ap (λ (z : Receipt). z.worker) (sym same)))
      (λ h. ap length all)
      (λ j u apart e' h q. ap length all)
      record {
        worker = f.worker;
        count = drawn_count s (Some r);
        ticket = f.ticket;
        turn = f.turn;
        writes = λ q. absurd (true≢false (sym q ∙ not));
        shut = λ q. refl;
        seen = subst (IsFront (moves log)) (sym all) (front_all (moves log));
        mine = ap (λ (l : List Receipt). l ++ r ∷ []) f.mine ∙ sym (own-mine v.worker log s (Some r));
        trial = λ x q. absurd (cc);
      }

  -- one that waits for the end of its read
  pub trial_keeps : v.hand.has_turn ≡ false → v.hand.trial ≡ None → v.knows.count < most
      → TurnPart most made (record n { draw = n.draw + 1 }) owners (log ++ mark v.worker None None ∷ []) (set views i (view_after_trial v n.draw (moves log)))
  trial_keeps off none room =
      let f = a.each i v at here in
      let w = view_after_trial v n.draw (moves log) in
      let all = moves-blank log v.worker in
      let len = a.draws in
      draws_keep None None w room here refl refl (sym all) (λ q e'. absurd (cc))
      (λ h. ap length all)
      (λ j u apart e' h q. ap length all)
      record {
        worker = f.worker;
        count = drawn_count None None;
        ticket = f.ticket;
        turn = f.turn;
        writes = λ q. absurd (true≢false (sym (f.writes q).0 ∙ off));
        shut = f.shut;
        seen = subst (IsFront (moves log)) (sym all) (front_all (moves log));
        mine = f.mine ∙ (sym (append-nil (by_worker v.worker log)) ∙ sym (own-mine v.worker log None None));
        trial = λ x q. let same : n.draw ≡ x = cc in (
          at_last log (mark v.worker None None) x (len ∙ same),
          λ k m lt e'. ⊎_elim
              (λ (t : (get_elem? log k ≡ some m) × (k < length log)). let b = t.1 in absurd (omega arith))
              (λ (t : (mark v.worker None None ≡ m) × (k ≡ length log)). let b = t.1 in absurd (omega arith))
              (at_end log (mark v.worker None None) m k e'),
        );
      }
