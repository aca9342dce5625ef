use Rattle.std.proofs.Common.{◌≡◌, ◌+◌, ◌++◌, ◌≤◌, map, Some, vec_len, vec_capacity, reverse}
use Rattle.xf_table.proofs.opening.dress.Given as goal

abbrev pub invariant-loop-value : goal.invariant-loop-value
invariant-loop-value g l = record {
  homes : map Some l.fn.values.items ≡ map Some l.values.items ++ reverse l.homes.items;
  size : (vec_len l.values + vec_len l.homes ≤ vec_capacity l.homes) × (vec_capacity l.values ≡ vec_capacity l.fn.values);
}

abbrev pub decreases-loop-value : goal.decreases-loop-value
decreases-loop-value g l = goal.left-loop-value g l
