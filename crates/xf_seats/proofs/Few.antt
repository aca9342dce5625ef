-- The numbers stay small.
use Rattle.std.proofs.Common.{ℕ, ◌+◌, ◌*◌, ◌<◌, ◌≤◌, Bool, true, false, List, [], ◌∷◌, length, Some, None, Option, arith, mul-le-mul_right}
use Rattle.std.specs.Prelude.{if◌then◌else◌}
use Rattle.xf_types.specs.declared.call.Receipt.{Receipt}
use Rattle.xf_types.specs.Moves.{is_moving, moves_of}
use Rattle.xf_views.specs.declared.view.View.{View}
use Rattle.xf_views.specs.Log.{Numbers, Mark, with_receipt, receipts_of, moves, AreBelow}
use Rattle.xf_views.specs.TurnPart.{TurnPart}
use Rattle.xf_views.proofs.Sayings.{turn_says}
use Rattle.xf_seats.specs.Small.{IsSmall}

few_with : (o : Option Receipt) (rs : List Receipt) → length (moves_of (with_receipt o rs)) ≤ length (moves_of rs) + 1
few_with None rs = omega arith
few_with (Some r) rs = either (is_moving r.reply)
  where
    either : (b : Bool) → length (if b then r ∷ moves_of rs else moves_of rs) ≤ length (moves_of rs) + 1
    either true = omega arith
    either false = omega arith

few_moves : (log : List Mark) → length (moves log) ≤ length log
few_moves [] = omega arith
few_moves (m ∷ ms) = let h = few_moves ms in let s = few_with m.receipt (receipts_of ms) in omega arith

below_if : (b : Bool) (n : ℕ) (r : Receipt) (rs : List Receipt) → r.number < n → AreBelow n rs → AreBelow n (if b then r ∷ rs else rs)
below_if true n r rs h k = (h, k)
below_if false n r rs h k = k

moves_below : (n : ℕ) (rs : List Receipt) → AreBelow n rs → AreBelow n (moves_of rs)
moves_below n [] h = tt
moves_below n (r ∷ rs) h = below_if (is_moving r.reply) n r (moves_of rs) h.0 (moves_below n rs h.1)

pub numbers_are_small : (most made : ℕ) (n : Numbers) (owners : List ℕ) (log : List Mark) (views : List View) → TurnPart most made n owners log views → IsSmall most n log
numbers_are_small most made n owners log views a =
    let q = turn_says most made n owners log views a in
    let room : made * most ≤ 16 * most = mul-le-mul_right most a.few in
    let drawn = q.small in
    let served = a.served in
    let known = q.known in
    let few = few_moves log in
    let draws = a.draws in
    record {
      draws = omega arith;
      serving = omega arith;
      generation = omega arith;
      moves = moves_below n.draw (receipts_of log) q.drawn;
    }
