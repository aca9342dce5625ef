use Rattle.std.proofs.Common.{◌≡◌, ◌+◌, ◌++◌, ◌≤◌, All, map, vec_len, vec_capacity, reverse}
use Rattle.xf_db.specs.Passes.{IsResting, pass_over}
use Rattle.xf_db.proofs.rows.dress.Given as goal

abbrev pub invariant-loop-seat : goal.invariant-loop-seat
invariant-loop-seat l = record {
  passes : map pass_over l.fn.seats.items ≡ map pass_over l.seats.items ++ reverse l.passes.items;
  resting : All IsResting l.seats.items;
  size : (vec_len l.seats + vec_len l.passes ≤ vec_capacity l.passes) × (vec_capacity l.seats ≡ vec_capacity l.fn.seats);
}

abbrev pub decreases-loop-seat : goal.decreases-loop-seat
decreases-loop-seat l = goal.left-loop-seat l
