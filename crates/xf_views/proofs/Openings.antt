-- Openings: the generation gets odd and even again.
use Rattle.std.proofs.Common.{◌≡◌, ◌≢◌, ℕ, ◌+◌, true, false, true≢false, List, set, refl, sym, ap, arith}
use mathlib.Core.Option.{some}
use lib.ListN.{get_elem?}
use Rattle.xf_views.specs.declared.view.View.{View}
use Rattle.xf_views.specs.Log.{Numbers, Mark, moves}
use Rattle.xf_views.specs.Views.{view_after_begin, view_after_finish}
use Rattle.xf_views.specs.TurnPart.{one_if, IsInTurn, TurnPart}
use Rattle.xf_views.proofs.Lists.{set_here, at_below}
use Rattle.xf_views.proofs.Seats.{each_set, one_seat_set, some_set, no_turn, even_now}

module _ (most made : ℕ) (n : Numbers) (owners : List ℕ) (log : List Mark) (views : List View) (a : TurnPart most made n owners log views) (i : ℕ) (v : View) (at : get_elem? views i ≡ some v) (here : v.here ≡ true) where
  others_turn : (j : ℕ) (u : View) → j ≢ i → get_elem? views j ≡ some u → u.here ≡ true → v.hand.has_turn ≡ true → u.hand.has_turn ≡ true → ⊥
  others_turn = no_turn most made n owners log views a i v at here

  pub begin_keeps : v.hand.has_turn ≡ true → v.hand.writing ≡ false → TurnPart most made (record n { generation = n.generation + 1 }) owners log (set views i (view_after_begin v))
  begin_keeps turn not =
      let f = a.each i v at here in
      let w = view_after_begin v in
      let now = even_now most made n owners log views a i v at here turn not in
      let len = a.even now in
      record {
        few = a.few;
        tickets = a.tickets;
        draws = a.draws;
        served = a.served;
        owners_made = a.owners_made;
        marks_made = a.marks_made;
        low = a.low;
        numbered = a.numbered;
        one_seat = one_seat_set views i v w at here refl a.one_seat;
        even = λ h. absurd (omega arith);
        odd = λ h. (i, w, set_here views i w (at_below views i v at), here, refl);
        longest = some_set views i v w at (λ u. u.knows.seen ≡ moves log) here (λ q. q) a.longest;
        each = each_set views i v w at (IsInTurn made (record n { generation = n.generation + 1 }) owners log)
            (λ j u apart e h. let g = a.each j u e h in record {
              worker = g.worker;
              count = g.count;
              ticket = g.ticket;
              turn = g.turn;
              writes = λ k. absurd (others_turn j u apart e h turn (g.writes k).0);
              shut = g.shut;
              seen = g.seen;
              mine = g.mine;
              trial = g.trial;
            })
            record {
              worker = f.worker;
              count = f.count;
              ticket = f.ticket;
              turn = f.turn;
              writes = λ k. (turn, omega arith, omega arith);
              shut = λ k. refl;
              seen = f.seen;
              mine = f.mine;
              trial = f.trial;
            };
      }

  pub finish_keeps : v.hand.writing ≡ true → v.hand.drawn ≡ true → TurnPart most made (record n { generation = n.generation + 1 }) owners log (set views i (view_after_finish v))
  finish_keeps is moved =
      let f = a.each i v at here in
      let w = view_after_finish v in
      let k = f.writes is in
      let odd = k.1 in
      let one : one_if v.hand.drawn ≡ 1 = ap one_if moved in
      let len = k.2 in
      record {
        few = a.few;
        tickets = a.tickets;
        draws = a.draws;
        served = a.served;
        owners_made = a.owners_made;
        marks_made = a.marks_made;
        low = a.low;
        numbered = a.numbered;
        one_seat = one_seat_set views i v w at here refl a.one_seat;
        even = λ h. omega arith;
        odd = λ h. absurd (omega arith);
        longest = some_set views i v w at (λ u. u.knows.seen ≡ moves log) here (λ q. q) a.longest;
        each = each_set views i v w at (IsInTurn made (record n { generation = n.generation + 1 }) owners log)
            (λ j u apart e h. let g = a.each j u e h in record {
              worker = g.worker;
              count = g.count;
              ticket = g.ticket;
              turn = g.turn;
              writes = λ q. absurd (others_turn j u apart e h k.0 (g.writes q).0);
              shut = g.shut;
              seen = g.seen;
              mine = g.mine;
              trial = g.trial;
            })
            record {
              worker = f.worker;
              count = f.count;
              ticket = f.ticket;
              turn = f.turn;
              writes = λ q. absurd (true≢false (sym q));
              shut = λ q. refl;
              seen = f.seen;
              mine = f.mine;
              trial = f.trial;
            };
      }
