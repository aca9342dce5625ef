-- A read ends and the next begins.
use Rattle.std.proofs.Common.{◌≡◌, ◌≢◌, ℕ, ◌+◌, ◌<◌, true, false, List, [], ◌∷◌, ◌++◌, length, set, Some, None, Option, refl, sym, ap, ◌∙◌, subst, arith, ⊎_elim}
use mathlib.Core.Option.{some, some-injective}
use lib.ListN.{get_elem?}
use Rattle.xf_types.specs.declared.call.Receipt.{Receipt}
use Rattle.xf_types.specs.Moves.{is_moving}
use Rattle.xf_views.specs.declared.entry.Entry.{Entry}
use Rattle.xf_views.specs.declared.view.View.{View}
use Rattle.xf_views.specs.declared.view.SlotTurn.{SlotTurn}
use Rattle.xf_views.specs.Log.{Numbers, Mark, mark, receipt, moves, tickets_of, IsFront}
use Rattle.xf_views.specs.Views.{view_after_generation}
use Rattle.xf_views.specs.TurnPart.{IsInTurn, TurnPart}
use Rattle.std.proofs.lemmas.List.{append-nil}
use Rattle.std.proofs.Math.ListN.{length-set}
use Rattle.xf_views.proofs.Lists.{at_set, set_here, set_else, at_below}
use Rattle.xf_views.proofs.Late.{own_settle, own_settle_other, moves_settle, marks_settle}
use Rattle.xf_views.proofs.Fronts.{front_all}
use Rattle.xf_views.proofs.Seats.{each_set, one_seat_set, some_set, other_worker}

module _ (most made : ℕ) (n : Numbers) (owners : List ℕ) (log : List Mark) (views : List View) (a : TurnPart most made n owners log views) (i : ℕ) (v : View) (at : get_elem? views i ≡ some v) (here : v.here ≡ true) where
  others_worker : (j : ℕ) (u : View) → j ≢ i → get_elem? views j ≡ some u → u.here ≡ true → v.worker ≢ u.worker
  others_worker = other_worker most made n owners log views a i v at here

  -- no receipt comes to stand
  pub look_keeps : (turns : List SlotTurn) → TurnPart most made n owners log (set views i (view_after_generation v n.generation (moves log) [] turns))
  look_keeps turns =
      let f = a.each i v at here in
      let w = view_after_generation v n.generation (moves log) [] turns in
      record {
        few = a.few;
        tickets = a.tickets;
        draws = a.draws;
        served = a.served;
        owners_made = a.owners_made;
        marks_made = a.marks_made;
        low = a.low;
        numbered = a.numbered;
        even = a.even;
        one_seat = one_seat_set views i v w at here refl a.one_seat;
        odd = λ o. some_set views i v w at (λ u. u.hand.writing ≡ true) here (λ q. q) (a.odd o);
        longest = (i, w, set_here views i w (at_below views i v at), here, refl);
        each = each_set views i v w at (IsInTurn made n owners log) (λ j u apart e h. a.each j u e h)
            record {
              worker = f.worker;
              count = f.count;
              ticket = f.ticket;
              turn = f.turn;
              writes = f.writes;
              shut = f.shut;
              seen = front_all (moves log);
              mine = append-nil v.knows.mine ∙ f.mine;
              trial = λ x q. absurd (cc);
            };
      }

  -- the trial's receipt comes to stand
  pub settle_keeps : (x : ℕ) (s : Option ℕ) (e : Entry) (turns : List SlotTurn) → v.hand.trial ≡ Some x → is_moving e.reply ≡ false
      → let r = receipt x v.worker e in TurnPart most made n owners (set log x (mark v.worker s (Some r))) (set views i (view_after_generation v n.generation (moves log) (r ∷ []) turns))
  settle_keeps x s e turns trial still =
      let f = a.each i v at here in
      let r = receipt x v.worker e in
      let w = view_after_generation v n.generation (moves log) (r ∷ []) turns in
      let log' = set log x (mark v.worker s (Some r)) in
      let t = f.trial x trial in
      let all = moves_settle v.worker log x s r t.0 still in
      let len = ap length all in
      let by_all = λ (m : Mark) (same : mark v.worker s (Some r) ≡ m). ap (λ (z : Mark). z.by) same in
      record {
        few = a.few;
        tickets = a.tickets;
        draws = length-set log x (mark v.worker s (Some r)) ∙ a.draws;
        served = a.served;
        owners_made = a.owners_made;
        marks_made = λ y m q. ⊎_elim
            (λ (p : (y ≡ x) × (mark v.worker s (Some r) ≡ m)). subst (λ z. z < made) (by_all m p.1) f.worker)
            (λ (p : (y ≢ x) × (get_elem? log y ≡ some m)). a.marks_made y m p.1)
            (at_set log x y (mark v.worker s (Some r)) m q);
        low = λ k. let l = a.low k in let c = marks_settle k v.worker log x None None s (Some r) t.0 in omega arith;
        numbered = λ y m q e' got. ⊎_elim
            (λ (p : (y ≡ x) × (mark v.worker s (Some r) ≡ m)). let two : Some r ≡ Some q = ap (λ (z : Mark). z.receipt) p.1 ∙ got in let same : r ≡ q = cc in (ap (λ (z : Receipt). z.number) (sym same) ∙ sym p.0, ap (λ (z : Receipt). z.worker) (sym same) ∙ by_all m p.1))
            (λ (p : (y ≢ x) × (get_elem? log y ≡ some m)). a.numbered y m q p.1 got)
            (at_set log x y (mark v.worker s (Some r)) m e');
        one_seat = one_seat_set views i v w at here refl a.one_seat;
        even = λ h. len ∙ a.even h;
        odd = λ o. some_set views i v w at (λ u. u.hand.writing ≡ true) here (λ q. q) (a.odd o);
        longest = (i, w, set_here views i w (at_below views i v at), here, sym all);
        each = each_set views i v w at (IsInTurn made n owners log')
            (λ j u apart e' h. let g = a.each j u e' h in let ne = others_worker j u apart e' h in record {
              worker = g.worker;
              count = g.count ∙ ap (λ k. tickets_of u.worker owners + k) (sym (marks_settle u.worker v.worker log x None None s (Some r) t.0));
              ticket = g.ticket;
              turn = g.turn;
              writes = λ q. let p = g.writes q in (p.0, p.1, len ∙ p.2);
              shut = g.shut;
              seen = subst (IsFront u.knows.seen) (sym all) g.seen;
              mine = g.mine ∙ sym (own_settle_other u.worker v.worker log x None None s (Some r) ne t.0);
              trial = λ y q. let p = g.trial y q in
                  let away : y ≢ x = λ same. ne (ap (λ (z : Mark). z.by) (some-injective (mark v.worker None None) (mark u.worker None None) (sym t.0 ∙ (ap (get_elem? log) (sym same) ∙ p.0)))) in (
                    set_else log x y (mark v.worker s (Some r)) away ∙ p.0,
                    λ k m lt e''. ⊎_elim
                        (λ (z : (k ≡ x) × (mark v.worker s (Some r) ≡ m)). λ same. ne (by_all m z.1 ∙ same))
                        (λ (z : (k ≢ x) × (get_elem? log k ≡ some m)). p.1 k m lt z.1)
                        (at_set log x k (mark v.worker s (Some r)) m e''),
                  );
            })
            record {
              worker = f.worker;
              count = f.count ∙ ap (λ k. tickets_of v.worker owners + k) (sym (marks_settle v.worker v.worker log x None None s (Some r) t.0));
              ticket = f.ticket;
              turn = f.turn;
              writes = λ q. let p = f.writes q in (p.0, p.1, len ∙ p.2);
              shut = f.shut;
              seen = subst (IsFront (moves log)) (sym all) (front_all (moves log));
              mine = ap (λ (l : List Receipt). l ++ r ∷ []) f.mine ∙ sym (own_settle v.worker log x s r t.0 t.1);
              trial = λ y q. absurd (cc);
            };
      }
