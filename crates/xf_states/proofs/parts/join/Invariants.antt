use Rattle.std.proofs.Common.{◌≡◌, ◌≤◌}
use Rattle.std.specs.Prelude.{vec_capacity}
use Rattle.xf_states.specs.Table.{zipped}
use Rattle.xf_states.proofs.parts.join.Given as goal

-- the states of the own parts so far
abbrev pub invariant-loop-own : goal.invariant-loop-own
invariant-loop-own l = record {
  items : l.held.items ≡ zipped l.states l.yielded;
  capacity : vec_capacity l.fn.held ≤ vec_capacity l.held;
}
