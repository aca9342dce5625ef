use Rattle.std.proofs.Common.{◌≡◌, ◌+◌, ◌++◌, ◌≤◌, map, Some, vec_len, vec_capacity, reverse}
use Rattle.xf_table.proofs.opening.undress.Given as goal

abbrev pub invariant-loop-home : goal.invariant-loop-home
invariant-loop-home g l = record {
  homes : l.fn.homes.items ≡ l.homes.items ++ map Some (reverse l.values.items);
  size : vec_len l.homes + vec_len l.values ≤ vec_capacity l.values;
}

abbrev pub decreases-loop-home : goal.decreases-loop-home
decreases-loop-home g l = goal.left-loop-home g l
