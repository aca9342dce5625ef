-- Where a receipt comes to stand that is drawn now.
use Rattle.std.proofs.Common.{◌≡◌, ◌==◌, ℕ, Bool, true, false, List, [], ◌∷◌, Some, None, Option, refl, sym, subst}
use Rattle.std.specs.Prelude.{if◌then◌else◌}
use mathlib.Core.Option.{some}
use lib.ListN.{get_elem?}
use Rattle.xf_types.specs.declared.call.Receipt.{Receipt}
use Rattle.xf_types.specs.declared.state.Sa.{Sa}
use Rattle.xf_types.specs.Moves.{after_moves}
use Rattle.xf_views.specs.declared.view.View.{View}
use Rattle.xf_views.specs.Log.{Numbers, Mark, with_receipt, receipts_of, moves, by_worker, AreBelow}
use Rattle.xf_views.specs.TurnPart.{TurnPart}
use Rattle.xf_views.proofs.Sayings.{turn_says}
use Rattle.xf_invariant.specs.Meaning.{Told, told_after, told_after_moves}
use Rattle.xf_table.specs.Rule.{most}
use Rattle.xf_table.specs.Plays.{IsPlaced}
use Rattle.xf_seats.proofs.Few.{numbers_are_small}

below_rest : (n : ℕ) (o : Option Receipt) (rs : List Receipt) → AreBelow n (with_receipt o rs) → AreBelow n rs
below_rest n None rs h = h
below_rest n (Some r) rs h = h.1

below_with : (n : ℕ) (o : Option Receipt) (rs xs : List Receipt) → AreBelow n (with_receipt o rs) → AreBelow n xs → AreBelow n (with_receipt o xs)
below_with n None rs xs h k = k
below_with n (Some r) rs xs h k = (h.0, k)

below_if : (b : Bool) (n : ℕ) (xs ys : List Receipt) → AreBelow n xs → AreBelow n ys → AreBelow n (if b then xs else ys)
below_if true n xs ys h k = h
below_if false n xs ys h k = k

-- the receipts of one worker have smaller numbers where all have
by_worker_below : (n k : ℕ) (log : List Mark) → AreBelow n (receipts_of log) → AreBelow n (by_worker k log)
by_worker_below n k [] h = tt
by_worker_below n k (m ∷ ms) h =
    let rest = by_worker_below n k ms (below_rest n m.receipt (receipts_of ms) h) in
    below_if (m.by == k) n (with_receipt m.receipt (by_worker k ms)) (by_worker k ms) (below_with n m.receipt (receipts_of ms) (by_worker k ms) h rest) rest

pub placed : (made : ℕ) (n : Numbers) (owners : List ℕ) (log : List Mark) (views : List View) (a : TurnPart most made n owners log views) (i : ℕ) (v : View) → get_elem? views i ≡ some v → v.here ≡ true
    → IsPlaced n.draw v (moves log)
placed made n owners log views a i v at here =
    let f = a.each i v at here in record {
      seen = f.seen;
      moves = (numbers_are_small most made n owners log views a).moves;
      own = subst (AreBelow n.draw) (sym f.mine) (by_worker_below n.draw v.worker log (turn_says most made n owners log views a).drawn);
    }

-- what is shown after moves, of what is told after them
pub told_shown : (bucket_of : Sa → ℕ) (t : Told) (rs : List Receipt) → (told_after_moves bucket_of t rs).shown ≡ after_moves t.shown rs
told_shown bucket_of t [] = refl
told_shown bucket_of t (r ∷ rs) = told_shown bucket_of (told_after bucket_of t r) rs
