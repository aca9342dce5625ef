-- A seat takes in another one: the turn part and the life part still hold.
use Rattle.std.proofs.Common.{◌≡◌, ◌≢◌, ℕ, ◌+◌, ◌<◌, true, true≢false, List, [], ◌∷◌, length, set, refl, sym, ap, ◌∙◌, subst, arith, ⊎_elim, length-append}
use mathlib.Core.Option.{some, some-injective}
use mathlib.Core.Logic.{dite}
use native.Mathlib.Decide.{ℕ_discrete}
use lib.ListN.{get_elem?}
use Rattle.xf_types.specs.declared.call.Receipt.{Receipt}
use Rattle.xf_views.specs.declared.view.View.{View}
use Rattle.xf_views.specs.Log.{moves, by_worker, IsFront}
use Rattle.xf_views.specs.TurnPart.{IsInTurn, SomeSeat, TurnPart}
use Rattle.xf_views.proofs.Lists.{at_set, at_end, at_below, set_here, set_else}
use Rattle.xf_views.proofs.Seats.{one_seat_set}
use Rattle.xf_seats.specs.LifePart.{FitsLife, LifePart}
use Rattle.xf_seats.specs.Seats.{nobody, taker}
use Rattle.xf_seats.specs.Joins.{Joining, after_join}
use Rattle.xf_seats.proofs.Longer.{longer_is, longer_first, longer_second}
use Rattle.xf_seats.proofs.Spent.{gone_at, joined_each}

module _ (most : ℕ) (s : Joining most) where
  abbrev views : List View
  views = s.age.moment.views

  abbrev i : ℕ
  i = s.age.moment.seat

  abbrev v : View
  v = s.age.moment.view

  abbrev j : ℕ
  j = s.other

  abbrev w : View
  w = s.guest

  abbrev a : TurnPart most s.age.moment.made s.age.moment.numbers s.age.moment.owners s.age.moment.log s.age.moment.views
  a = s.age.moment.holds

  at : get_elem? views i ≡ some v
  at = s.age.moment.there

  mine_in : IsInTurn s.age.moment.made s.age.moment.numbers s.age.moment.owners s.age.moment.log v
  mine_in = a.each i v s.age.moment.there s.age.moment.here

  guest_in : IsInTurn s.age.moment.made s.age.moment.numbers s.age.moment.owners s.age.moment.log w
  guest_in = a.each j w s.there.there s.there.here

  taker_in : IsInTurn s.age.moment.made s.age.moment.numbers s.age.moment.owners s.age.moment.log (taker v w)
  taker_in = record {
    worker = mine_in.worker;
    count = mine_in.count;
    ticket = mine_in.ticket;
    turn = mine_in.turn;
    writes = mine_in.writes;
    shut = mine_in.shut;
    seen = longer_is (λ (l : List Receipt). IsFront l (moves s.age.moment.log)) v.knows.seen w.knows.seen mine_in.seen guest_in.seen;
    mine = mine_in.mine;
    trial = mine_in.trial;
  }

  -- the seat that takes in the other is there
  taker_there : get_elem? (after_join most s) i ≡ some (taker v w)
  taker_there =
      set_else (set views i (taker v w)) j i nobody (λ e. s.apart (sym e)) ∙ set_here views i (taker v w) (at_below views i v at)

  -- some seat has a property, where some seat had it, and the one that takes in the other has it where either had it
  joined_some : (P : View → Type 0) → (P v → P (taker v w)) → (P w → P (taker v w)) → SomeSeat views P → SomeSeat (after_join most s) P
  joined_some P mine guest o = dite (ℕ_discrete o.0 i)
      (λ e. (i, taker v w, taker_there, s.age.moment.here, mine (subst P (some-injective o.1 v (sym o.2 ∙ (ap (get_elem? views) e ∙ at))) o.4)))
      (λ ne. dite (ℕ_discrete o.0 j)
      (λ e. (i, taker v w, taker_there, s.age.moment.here, guest (subst P (some-injective o.1 w (sym o.2 ∙ (ap (get_elem? views) e ∙ s.there.there))) o.4)))
      (λ far. (o.0, o.1, set_else (set views i (taker v w)) j o.0 nobody far ∙ (set_else views i o.0 (taker v w) ne ∙ o.2), o.3, o.4)))

  pub join_keeps_turn : TurnPart most s.age.moment.made s.age.moment.numbers s.age.moment.owners s.age.moment.log (after_join most s)
  join_keeps_turn =
      let log = s.age.moment.log in
      let here = s.age.moment.here in
      record {
        few = a.few;
        tickets = a.tickets;
        draws = a.draws;
        served = a.served;
        owners_made = a.owners_made;
        marks_made = a.marks_made;
        low = a.low;
        numbered = a.numbered;
        even = a.even;
        one_seat = λ k l x y ex ey hx hy e. one_seat_set views i v (taker v w) at here refl a.one_seat k l x y
            (gone_at (set views i (taker v w)) j k x ex hx).1 (gone_at (set views i (taker v w)) j l y ey hy).1 hx hy e;
        odd = λ h. joined_some (λ u. u.hand.writing ≡ true) (λ q. q) (λ q. absurd (true≢false (sym q ∙ s.closed))) (a.odd h);
        longest = joined_some (λ u. u.knows.seen ≡ moves log)
            (longer_first v.knows.seen w.knows.seen (moves log) mine_in.seen guest_in.seen)
            (longer_second v.knows.seen w.knows.seen (moves log) mine_in.seen guest_in.seen) a.longest;
        each = joined_each views i v j w at (IsInTurn s.age.moment.made s.age.moment.numbers s.age.moment.owners log) (λ k u apart e h. a.each k u e h) taker_in;
      }

  -- no other seat took in any
  only : (k : ℕ) (u : View) → get_elem? views k ≡ some u → u.here ≡ true → 0 < length u.life.gathered → k ≡ i
  only k u e h some_in = a.one_seat k i u v e at h s.age.moment.here ((s.age.life.gone k k u u e e h h some_in).0 ∙ sym s.first)

  pub join_keeps_life : LifePart s.age.moment.made s.age.start s.age.moment.log (after_join most s)
  join_keeps_life =
      let log = s.age.moment.log in
      let here = s.age.moment.here in
      let g = s.age.life in
      let f = g.each i v at here in
      let next = s.next in
      record {
        each = joined_each views i v j w at (λ u. FitsLife s.age.moment.made s.age.start log u.worker u.life) (λ k u apart e h. g.each k u e h)
            record {
              start_is = f.start_is;
              makes = f.makes;
              took = λ m l q. ⊎_elim
                  (λ (p : (get_elem? v.life.gathered m ≡ some l) × (m < length v.life.gathered)). f.took m l p.0)
                  (λ (p : (w.knows.mine ≡ l) × (m ≡ length v.life.gathered)). sym p.0 ∙ (guest_in.mine ∙ ap (λ z. by_worker z log) (next ∙ ap (λ z. z + 1) (sym p.1))))
                  (at_end v.life.gathered w.knows.mine l m q);
            };
        gone = λ k l x y ex ey hx hy some_in.
            let px = gone_at (set views i (taker v w)) j k x ex hx in
            let py = gone_at (set views i (taker v w)) j l y ey hy in
            ⊎_elim
            (λ (p : (k ≡ i) × (taker v w ≡ x)). (
              sym (ap (λ (z : View). z.worker) p.1) ∙ s.first,
              λ away. ⊎_elim
                  (λ (q : (l ≡ i) × (taker v w ≡ y)). absurd (away (q.0 ∙ sym p.0)))
                  (λ (q : (l ≢ i) × (get_elem? views l ≡ some y)).
                  let not_w : w.worker ≢ y.worker = λ e. py.0 (a.one_seat l j y w q.1 s.there.there hy s.there.here (sym e)) in
                  let not_v : v.worker ≢ y.worker = λ e. q.0 (a.one_seat l i y v q.1 at hy here (sym e)) in
                  let size : length x.life.gathered ≡ length v.life.gathered + 1 = ap (λ (z : View). length z.life.gathered) (sym p.1) ∙ length-append v.life.gathered (w.knows.mine ∷ []) in
                  let first = s.first in
                  dite (ℕ_discrete (length v.life.gathered) 0)
                  (λ z. omega arith)
                  (λ nz. let far = (g.gone i l v y at q.1 here hy (omega arith)).1 q.0 in omega arith))
                  (at_set views i l (taker v w) y py.1),
            ))
            (λ (p : (k ≢ i) × (get_elem? views k ≡ some x)). absurd (p.0 (only k x p.1 hx some_in)))
            (at_set views i k (taker v w) x px.1);
      }
