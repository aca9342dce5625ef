-- The states below i are asked for.
use Rattle.std.proofs.Common.{map}
use Rattle.xf_batch.specs.GeneratedCalls.{add_state}
use Rattle.xf_batch.specs.Generated.{below}
use Rattle.xf_batch.specs.Making.{Asks}
use Rattle.xf_batch.proofs.generated_phases.add_states.Given as goal

abbrev pub invariant-loop-i : goal.invariant-loop-i
invariant-loop-i l = Asks l.initial.made l.made (map (add_state l.worker) (below l.i)) 0
