-- A step of one seat keeps the life part, as long as the receipts of other workers stay.
use Rattle.std.proofs.Common.{◌≡◌, ◌≢◌, ℕ, ◌+◌, ◌<◌, List, [], ◌∷◌, ◌++◌, length, set, Some, None, Option, refl, sym, ap, ◌∙◌, subst, arith, ⊎_elim}
use mathlib.Core.Option.{some}
use lib.ListN.{get_elem?}
use Rattle.xf_types.specs.declared.call.Receipt.{Receipt}
use Rattle.xf_views.specs.declared.view.View.{View}
use Rattle.xf_views.specs.declared.view.LifeView.{LifeView}
use Rattle.xf_views.specs.Log.{Mark, mark, by_worker}
use Rattle.xf_views.proofs.Lists.{at_set, at_below}
use Rattle.xf_views.proofs.Logs.{own-other}
use Rattle.xf_views.proofs.Late.{own_settle_other}
use Rattle.xf_views.proofs.Seats.{each_set}
use Rattle.xf_seats.specs.LifePart.{FitsLife, LifePart}
use Rattle.xf_seats.specs.LifeLaws.{IsSameLife, Age}

module _ (most : ℕ) (a : Age most) where
  -- any step
  row_keeps : (log' : List Mark) (w : View) → IsSameLife a.moment.view w → ((k : ℕ) → a.moment.view.worker ≢ k → by_worker k log' ≡ by_worker k a.moment.log)
      → LifePart a.moment.made a.start log' (set a.moment.views a.moment.seat w)
  row_keeps log' w is others =
      let made = a.moment.made in let start = a.start in let views = a.moment.views in
      let i = a.moment.seat in let v = a.moment.view in let at = a.moment.there in let here = a.moment.here in
      let g = a.life in
      let f = g.each i v at here in
      let size : length w.life.gathered ≡ length v.life.gathered = ap (λ (l : LifeView). length l.gathered) is.life in
      record {
        each = each_set views i v w at (λ u. FitsLife made start log' u.worker u.life)
            (λ j u apart e h. let q = g.each j u e h in record {
              start_is = q.start_is;
              makes = q.makes;
              took = λ k l z. let b = at_below u.life.gathered k l z in let far = (g.gone j i u v e at h here (omega arith)).1 (λ z. apart (sym z)) in
                  q.took k l z ∙ sym (others (k + 1) (λ z. omega arith));
            })
            (subst (λ (l : LifeView). FitsLife made start log' w.worker l) (sym is.life) (subst (λ k. FitsLife made start log' k v.life) (sym is.worker) record {
              start_is = f.start_is;
              makes = f.makes;
              took = λ k l z. let b = at_below v.life.gathered k l z in let o = (g.gone i i v v at at here here (omega arith)).0 in
                  f.took k l z ∙ sym (others (k + 1) (λ e. omega arith));
            }));
        gone = λ j k x y ex ey hx hy some_in. ⊎_elim
            (λ (p : (j ≡ i) × (w ≡ x)).
            let in_v : 0 < length v.life.gathered = subst (λ (z : View). 0 < length z.life.gathered → 0 < length v.life.gathered) p.1 (λ h. subst (λ z. 0 < z) size h) some_in in (
              sym (ap (λ (z : View). z.worker) p.1) ∙ (is.worker ∙ (g.gone i i v v at at here here in_v).0),
              λ apart. ⊎_elim
                  (λ (q : (k ≡ i) × (w ≡ y)). absurd (apart (q.0 ∙ sym p.0)))
                  (λ (q : (k ≢ i) × (get_elem? views k ≡ some y)). subst (λ (z : View). length z.life.gathered < y.worker) p.1 (subst (λ z. z < y.worker) (sym size) ((g.gone i k v y at q.1 here hy in_v).1 q.0)))
                  (at_set views i k w y ey),
            ))
            (λ (p : (j ≢ i) × (get_elem? views j ≡ some x)). (
              (g.gone j j x x p.1 p.1 hx hx some_in).0,
              λ apart. ⊎_elim
                  (λ (q : (k ≡ i) × (w ≡ y)). subst (λ (z : View). length x.life.gathered < z.worker) q.1 (subst (λ z. length x.life.gathered < z) (sym is.worker) ((g.gone j i x v p.1 at hx here some_in).1 (λ z. p.0 (sym z)))))
                  (λ (q : (k ≢ i) × (get_elem? views k ≡ some y)). (g.gone j k x y p.1 q.1 hx hy some_in).1 apart)
                  (at_set views i k w y ey),
            ))
            (at_set views i j w x ex);
      }

  pub quiet_keeps_life : (w : View) → IsSameLife a.moment.view w → LifePart a.moment.made a.start a.moment.log (set a.moment.views a.moment.seat w)
  quiet_keeps_life w is = row_keeps a.moment.log w is (λ k ne. refl)

  pub draw_keeps_life : (one : Option ℕ) (o : Option Receipt) (w : View) → IsSameLife a.moment.view w
      → LifePart a.moment.made a.start (a.moment.log ++ mark a.moment.view.worker one o ∷ []) (set a.moment.views a.moment.seat w)
  draw_keeps_life one o w is =
      row_keeps (a.moment.log ++ mark a.moment.view.worker one o ∷ []) w is (λ k ne. own-other k a.moment.view.worker a.moment.log one o ne)

  pub settle_keeps_life : (x : ℕ) (one : Option ℕ) (r : Receipt) (w : View) → a.moment.view.hand.trial ≡ Some x → IsSameLife a.moment.view w
      → LifePart a.moment.made a.start (set a.moment.log x (mark a.moment.view.worker one (Some r))) (set a.moment.views a.moment.seat w)
  settle_keeps_life x one r w trial is =
      row_keeps (set a.moment.log x (mark a.moment.view.worker one (Some r))) w is
      (λ k ne. own_settle_other k a.moment.view.worker a.moment.log x None None one (Some r) ne ((a.moment.holds.each a.moment.seat a.moment.view a.moment.there a.moment.here).trial x trial).0)
