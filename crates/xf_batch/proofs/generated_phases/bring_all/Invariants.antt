-- The packets with numbers to i are asked for.
use Rattle.std.proofs.Common.{map, ◌+◌}
use Rattle.xf_batch.specs.GeneratedCalls.{bring, value_at}
use Rattle.xf_batch.specs.Generated.{below}
use Rattle.xf_batch.specs.Making.{Asks}
use Rattle.xf_batch.proofs.generated_phases.bring_all.Given as goal

abbrev pub invariant-loop-i : goal.invariant-loop-i
invariant-loop-i l =
    Asks l.initial.made l.made (map (λ i. bring l.worker (value_at i l.initial.made.x) (i + 1)) (below l.i)) l.i
