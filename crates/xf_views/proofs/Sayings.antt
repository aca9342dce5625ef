-- What follows from the turn part about the numbers and about two seats.
use Rattle.std.proofs.Common.{◌≡◌, ℕ, zero, suc, ◌/◌, ◌%◌, ◌<◌, ◌≤◌, List, [], ◌∷◌, length, Some, None, Option, refl, sym, ap, ◌∙◌, arith}
use mathlib.Core.Option.{some, some-injective}
use mathlib.Core.Logic.{dite}
use native.Mathlib.Decide.{ℕ_discrete}
use lib.ListN.{get_elem?}
use Rattle.xf_types.specs.declared.call.Receipt.{Receipt}
use Rattle.xf_views.specs.declared.view.View.{View}
use Rattle.xf_views.specs.Log.{Numbers, Mark, mark, with_receipt, receipts_of, moves, AreBelow}
use Rattle.xf_views.specs.TurnPart.{IsInTurn, TurnPart}
use Rattle.xf_views.specs.TurnSays.{IsSeat, SaysTurn}
use Rattle.xf_views.proofs.Lists.{at_below}
use Rattle.xf_views.proofs.Fronts.{front_either}
use Rattle.xf_views.proofs.Seats.{turn_alone}
use Rattle.xf_views.proofs.Counts.{drawn_low}

below_with : (o : Option Receipt) (n : ℕ) (rs : List Receipt) → ((r : Receipt) → o ≡ Some r → r.number < n) → AreBelow n rs → AreBelow n (with_receipt o rs)
below_with None n rs all h = h
below_with (Some r) n rs all h = (all r refl, h)

receipts_below : (n : ℕ) (log : List Mark) → ((x : ℕ) (m : Mark) (r : Receipt) → get_elem? log x ≡ some m → m.receipt ≡ Some r → r.number < n) → AreBelow n (receipts_of log)
receipts_below n [] all = tt
receipts_below n (m ∷ ms) all =
    below_with m.receipt n (receipts_of ms) (λ r e. all zero m r refl e) (receipts_below n ms (λ x u r a b. all (suc x) u r a b))

module _ (most made : ℕ) (n : Numbers) (owners : List ℕ) (log : List Mark) (views : List View) (a : TurnPart most made n owners log views) where
  same_seat : (i j : ℕ) (v u : View) → IsSeat views i v → IsSeat views j u → v.worker ≡ u.worker → i ≡ j
  same_seat i j v u s t e = a.one_seat i j v u s.there t.there s.here t.here e

  seat_fits : (i : ℕ) (v : View) → IsSeat views i v → IsInTurn made n owners log v
  seat_fits i v s = a.each i v s.there s.here

  moves_known : n.generation / 2 ≤ length (moves log)
  moves_known = dite (ℕ_discrete (n.generation % 2) 0)
      (λ e. let h = a.even e in omega arith)
      (λ ne. let o = a.odd (omega arith) in let w = (a.each o.0 o.1 o.2 o.3).writes o.4 in let k = w.2 in omega arith)

  pub turn_says : SaysTurn most made n log views
  turn_says = record {
    tickets = λ i t v s e.
        let p = (seat_fits i v s).ticket t e in
        let low = at_below owners t v.worker p.1 in
        (p.0, (let h = a.tickets in omega arith), λ j u q g. same_seat i j v u s q (some-injective v.worker u.worker (sym p.1 ∙ ((seat_fits j u q).ticket t g).1)));
    turn = λ i v s e. ((seat_fits i v s).turn e, λ j u q g. same_seat i j v u s q (turn_alone made n owners log v u (seat_fits i v s) (seat_fits j u q) e g));
    odd = (a.odd, λ o. ((a.each o.0 o.1 o.2 o.3).writes o.4).1);
    moves_even = a.even;
    moves_odd = λ i v s e. ((seat_fits i v s).writes e).2;
    known = moves_known;
    drawn = receipts_below n.draw log (λ x m r e q. let low = at_below log x m e in let k = (a.numbered x m r e q).0 in let d = a.draws in omega arith);
    trials = λ i x v s e.
        let p = (seat_fits i v s).trial x e in
        let low = at_below log x (mark v.worker None None) p.0 in
        ((let d = a.draws in omega arith), p.0, λ j u q g. same_seat i j v u s q (ap (λ (m : Mark). m.by) (some-injective (mark v.worker None None) (mark u.worker None None) (sym p.0 ∙ ((seat_fits j u q).trial x g).0))));
    seen = λ i j v u s q. front_either v.knows.seen u.knows.seen (moves log) (seat_fits i v s).seen (seat_fits j u q).seen;
    longest = a.longest;
    small = let h = drawn_low made most owners log a.owners_made a.marks_made a.low in let t = a.tickets in let d = a.draws in omega arith;
  }
