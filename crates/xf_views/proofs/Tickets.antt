-- Tickets, and the turn that comes and goes.
use Rattle.std.proofs.Common.{◌≡◌, ◌≢◌, ℕ, ◌+◌, ◌<◌, ◌≤◌, Bool, true, false, true≢false, List, [], ◌∷◌, ◌++◌, length, set, None, refl, sym, ap, ◌∙◌, subst, arith, eq-eqb, ne_eqb, length-append, ⊎_elim}
use Rattle.std.specs.Prelude.{if◌then◌else◌}
use mathlib.Core.Option.{some, some-injective}
use mathlib.Core.Logic.{dite}
use native.Mathlib.Decide.{ℕ_discrete}
use lib.ListN.{get_elem?}
use Rattle.xf_views.specs.declared.view.View.{View}
use Rattle.xf_views.specs.Log.{Numbers, Mark, moves, tickets_of, marks_of}
use Rattle.xf_views.specs.Views.{view_after_ticket, view_after_serving, view_after_leave}
use Rattle.xf_views.specs.TurnPart.{IsInTurn, TurnPart}
use Rattle.xf_views.proofs.Lists.{at_snoc, at_last, at_longer, at_below}
use Rattle.xf_views.proofs.Logs.{tickets-append}
use Rattle.xf_views.proofs.Seats.{is_served-true, each_set, one_seat_set, some_set, other_worker, no_turn, even_now}

module _ (most made : ℕ) (n : Numbers) (owners : List ℕ) (log : List Mark) (views : List View) (a : TurnPart most made n owners log views) (i : ℕ) (v : View) (at : get_elem? views i ≡ some v) (here : v.here ≡ true) where
  others_worker : (j : ℕ) (u : View) → j ≢ i → get_elem? views j ≡ some u → u.here ≡ true → v.worker ≢ u.worker
  others_worker = other_worker most made n owners log views a i v at here

  others_turn : (j : ℕ) (u : View) → j ≢ i → get_elem? views j ≡ some u → u.here ≡ true → v.hand.has_turn ≡ true → u.hand.has_turn ≡ true → ⊥
  others_turn = no_turn most made n owners log views a i v at here

  pub ticket_keeps : v.hand.ticket ≡ None → v.knows.count < most → TurnPart most made (record n { ticket = n.ticket + 1 }) (owners ++ v.worker ∷ []) log (set views i (view_after_ticket v n.ticket))
  ticket_keeps none room =
      let f = a.each i v at here in
      let w = view_after_ticket v n.ticket in
      let count_v : tickets_of v.worker (owners ++ v.worker ∷ []) ≡ tickets_of v.worker owners + 1 = tickets-append v.worker owners v.worker ∙ ap (λ (b : Bool). tickets_of v.worker owners + (if b then 1 else 0)) (eq-eqb v.worker v.worker refl) in
      let count_u : (k : ℕ) → v.worker ≢ k → tickets_of k (owners ++ v.worker ∷ []) ≡ tickets_of k owners = λ k ne. tickets-append k owners v.worker ∙ (ap (λ (b : Bool). tickets_of k owners + (if b then 1 else 0)) (ne_eqb v.worker k ne) ∙ omega arith) in
      record {
        few = a.few;
        tickets = length-append owners (v.worker ∷ []) ∙ ap (λ k. k + 1) a.tickets;
        draws = a.draws;
        served = let s = a.served in omega arith;
        owners_made = λ t k e. ⊎_elim (λ (x : get_elem? owners t ≡ some k). a.owners_made t k x) (λ (x : v.worker ≡ k). subst (λ z. z < made) x f.worker) (at_snoc owners v.worker k t e);
        marks_made = a.marks_made;
        low = λ k. dite (ℕ_discrete v.worker k)
            (λ e. subst (λ z. tickets_of z (owners ++ v.worker ∷ []) + marks_of z log ≤ most) e (let c = f.count in omega arith))
            (λ ne. let c = count_u k ne in let l = a.low k in omega arith);
        numbered = a.numbered;
        one_seat = one_seat_set views i v w at here refl a.one_seat;
        even = a.even;
        odd = λ o. some_set views i v w at (λ u. u.hand.writing ≡ true) here (λ q. q) (a.odd o);
        longest = some_set views i v w at (λ u. u.knows.seen ≡ moves log) here (λ q. q) a.longest;
        each = each_set views i v w at (IsInTurn made (record n { ticket = n.ticket + 1 }) (owners ++ v.worker ∷ []) log)
            (λ j u apart e h. let g = a.each j u e h in record {
              worker = g.worker;
              count = let c = count_u u.worker (others_worker j u apart e h) in let d = g.count in omega arith;
              ticket = λ t h. let p = g.ticket t h in (p.0, at_longer owners (v.worker ∷ []) t u.worker p.1);
              turn = g.turn;
              writes = g.writes;
              shut = g.shut;
              seen = g.seen;
              mine = g.mine;
              trial = g.trial;
            })
            record {
              worker = f.worker;
              count = let c = f.count in omega arith;
              ticket = λ t h. let e : n.ticket ≡ t = cc in (let s = a.served in omega arith, at_last owners v.worker t (a.tickets ∙ e));
              turn = λ h. let t = f.turn h in absurd (cc);
              writes = f.writes;
              shut = f.shut;
              seen = f.seen;
              mine = f.mine;
              trial = f.trial;
            };
      }

  pub serving_keeps : (image : List ℕ) → v.hand.has_turn ≡ false → TurnPart most made n owners log (set views i (view_after_serving v n.serving image))
  serving_keeps image off =
      let f = a.each i v at here in
      let w = view_after_serving v n.serving image in
      record {
        few = a.few;
        tickets = a.tickets;
        draws = a.draws;
        served = a.served;
        owners_made = a.owners_made;
        marks_made = a.marks_made;
        low = a.low;
        numbered = a.numbered;
        even = a.even;
        one_seat = one_seat_set views i v w at here refl a.one_seat;
        odd = λ o. some_set views i v w at (λ u. u.hand.writing ≡ true) here (λ q. q) (a.odd o);
        longest = some_set views i v w at (λ u. u.knows.seen ≡ moves log) here (λ q. q) a.longest;
        each = each_set views i v w at (IsInTurn made n owners log) (λ j u apart e h. a.each j u e h)
            record {
              worker = f.worker;
              count = f.count;
              ticket = f.ticket;
              turn = λ h. is_served-true v.hand.ticket n.serving h;
              writes = λ h. let t = (f.writes h).0 in absurd (true≢false (sym t ∙ off));
              shut = f.shut;
              seen = f.seen;
              mine = f.mine;
              trial = f.trial;
            };
      }

  pub leave_keeps : v.hand.has_turn ≡ true → v.hand.writing ≡ false → TurnPart most made (record n { serving = n.serving + 1 }) owners log (set views i (view_after_leave v))
  leave_keeps turn not =
      let f = a.each i v at here in
      let w = view_after_leave v in
      let mine = f.ticket n.serving (f.turn turn) in
      let below : n.serving < length owners = at_below owners n.serving v.worker mine.1 in
      let now = even_now most made n owners log views a i v at here turn not in
      record {
        few = a.few;
        tickets = a.tickets;
        draws = a.draws;
        served = let t = a.tickets in omega arith;
        owners_made = a.owners_made;
        marks_made = a.marks_made;
        low = a.low;
        numbered = a.numbered;
        one_seat = one_seat_set views i v w at here refl a.one_seat;
        even = a.even;
        odd = λ h. absurd (omega arith);
        longest = some_set views i v w at (λ u. u.knows.seen ≡ moves log) here (λ q. q) a.longest;
        each = each_set views i v w at (IsInTurn made (record n { serving = n.serving + 1 }) owners log)
            (λ j u apart e h. let g = a.each j u e h in record {
              worker = g.worker;
              count = g.count;
              ticket = λ t q. let p = g.ticket t q in let ge = p.0 in
                  let ne : t ≢ n.serving = λ same. others_worker j u apart e h (some-injective v.worker u.worker (sym mine.1 ∙ (ap (get_elem? owners) (sym same) ∙ p.1))) in
                  (omega arith, p.1);
              turn = λ q. absurd (others_turn j u apart e h turn q);
              writes = λ q. absurd (others_turn j u apart e h turn (g.writes q).0);
              shut = g.shut;
              seen = g.seen;
              mine = g.mine;
              trial = g.trial;
            })
            record {
              worker = f.worker;
              count = f.count;
              ticket = λ t q. absurd (cc);
              turn = λ q. absurd (true≢false (sym q));
              writes = λ q. absurd (true≢false (sym q ∙ not));
              shut = f.shut;
              seen = f.seen;
              mine = f.mine;
              trial = f.trial;
            };
      }
