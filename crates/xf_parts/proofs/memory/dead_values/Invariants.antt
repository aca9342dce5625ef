use Rattle.std.proofs.Common.{◌≡◌}
use Rattle.xf_parts.specs.Held.{all_dead}
use Rattle.xf_parts.proofs.memory.dead_values.Given as goal

abbrev pub invariant-slots : goal.invariant-slots
invariant-slots l = l.values.items ≡ all_dead l._slot
