-- The policies below i are asked for.
use Rattle.std.proofs.Common.{map}
use Rattle.xf_batch.specs.GeneratedCalls.{add_policy, value_at}
use Rattle.xf_batch.specs.Generated.{below}
use Rattle.xf_batch.specs.Making.{Asks}
use Rattle.xf_batch.proofs.generated_phases.add_policies.Given as goal

abbrev pub invariant-loop-i : goal.invariant-loop-i
invariant-loop-i l =
    Asks l.initial.made l.made (map (λ i. add_policy l.worker i (value_at i l.initial.made.x)) (below l.i)) l.i
