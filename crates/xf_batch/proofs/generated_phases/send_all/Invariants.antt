-- As many sends are asked for as rounds were made.
use Rattle.std.proofs.Common.{map}
use Rattle.xf_batch.specs.GeneratedCalls.{send_to, value_at}
use Rattle.xf_batch.specs.Generated.{below}
use Rattle.xf_batch.specs.Making.{Asks}
use Rattle.xf_batch.proofs.generated_phases.send_all.Given as goal

abbrev pub invariant-loop : goal.invariant-loop
invariant-loop l =
    Asks l.initial.made l.made (map (λ i. send_to l.worker (value_at i l.initial.made.x)) (below l.counter)) l.counter
