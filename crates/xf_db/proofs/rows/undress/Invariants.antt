use Rattle.std.proofs.Common.{◌≡◌, ◌+◌, ◌++◌, ◌≤◌, All, map, vec_len, vec_capacity, reverse}
use Rattle.xf_db.specs.Passes.{IsResting, pass_over}
use Rattle.xf_db.proofs.rows.undress.Given as goal

abbrev pub invariant-loop-pass : goal.invariant-loop-pass
invariant-loop-pass l = record {
  passes : l.fn.passes.items ≡ l.passes.items ++ map pass_over (reverse l.seats.items);
  resting : All IsResting (reverse l.seats.items);
  size : vec_len l.passes + vec_len l.seats ≤ vec_capacity l.seats;
}

abbrev pub decreases-loop-pass : goal.decreases-loop-pass
decreases-loop-pass l = goal.left-loop-pass l
