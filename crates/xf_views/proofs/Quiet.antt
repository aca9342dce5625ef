-- Steps that change nothing of which the turn part speaks.
use Rattle.std.proofs.Common.{◌≡◌, ℕ, true, List, set, Option, refl, sym, ◌∙◌}
use mathlib.Core.Option.{some}
use lib.ListN.{get_elem?}
use Rattle.xf_views.specs.declared.entry.Listed.{Listed}
use Rattle.xf_views.specs.declared.view.View.{View}
use Rattle.xf_views.specs.Log.{Numbers, Mark, moves}
use Rattle.xf_views.specs.Views.{view_after_store, view_after_load, view_after_pin, view_after_load_pin, view_after_take, view_after_miss, view_after_give}
use Rattle.xf_views.specs.TurnPart.{IsInTurn, TurnPart}
use Rattle.xf_views.proofs.Seats.{each_set, one_seat_set, some_set}

module _ (most made : ℕ) (n : Numbers) (owners : List ℕ) (log : List Mark) (views : List View) (a : TurnPart most made n owners log views) (i : ℕ) (v : View) (at : get_elem? views i ≡ some v) (here : v.here ≡ true) where
  -- a step that changes nothing of which the turn part speaks
  pub quiet : (w : View) → w.here ≡ true → w.worker ≡ v.worker → v.hand.writing ≡ w.hand.writing → v.knows.seen ≡ w.knows.seen → IsInTurn made n owners log w → TurnPart most made n owners log (set views i w)
  quiet w here' same writing seen fits = record {
    few = a.few;
    tickets = a.tickets;
    draws = a.draws;
    served = a.served;
    owners_made = a.owners_made;
    marks_made = a.marks_made;
    low = a.low;
    numbered = a.numbered;
    even = a.even;
    one_seat = one_seat_set views i v w at here same a.one_seat;
    odd = λ o. some_set views i v w at (λ u. u.hand.writing ≡ true) here' (λ q. sym writing ∙ q) (a.odd o);
    longest = some_set views i v w at (λ u. u.knows.seen ≡ moves log) here' (λ q. sym seen ∙ q) a.longest;
    each = each_set views i v w at (IsInTurn made n owners log) (λ j u apart e h. a.each j u e h) fits;
  }

  pub store_keeps : (slots p x : ℕ) → TurnPart most made n owners log (set views i (view_after_store slots v p x))
  store_keeps slots p x = quiet (view_after_store slots v p x) here refl refl refl (a.each i v at here)

  pub load_keeps : (p x : ℕ) → TurnPart most made n owners log (set views i (view_after_load v p x))
  load_keeps p x = quiet (view_after_load v p x) here refl refl refl (a.each i v at here)

  pub pin_keeps : (q : ℕ) → TurnPart most made n owners log (set views i (view_after_pin v q))
  pin_keeps q = quiet (view_after_pin v q) here refl refl refl (a.each i v at here)

  pub load_pin_keeps : (k q : ℕ) → TurnPart most made n owners log (set views i (view_after_load_pin v k q))
  load_pin_keeps k q = quiet (view_after_load_pin v k q) here refl refl refl (a.each i v at here)

  pub take_keeps : (k : ℕ) (o : Option Listed) → TurnPart most made n owners log (set views i (view_after_take v k o))
  take_keeps k o = quiet (view_after_take v k o) here refl refl refl (a.each i v at here)

  pub give_keeps : (k : ℕ) → TurnPart most made n owners log (set views i (view_after_give v k))
  give_keeps k = quiet (view_after_give v k) here refl refl refl (a.each i v at here)

  pub miss_keeps : TurnPart most made n owners log (set views i (view_after_miss v))
  miss_keeps = quiet (view_after_miss v) here refl refl refl (a.each i v at here)
