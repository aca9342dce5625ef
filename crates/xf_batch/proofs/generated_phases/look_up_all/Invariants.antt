-- The first i flows are asked for, after the one value was taken.
use Rattle.std.proofs.Common.{map, ◌+◌, ◌%◌}
use Rattle.xf_batch.specs.GeneratedCalls.{look_up, value_at}
use Rattle.xf_batch.specs.Generated.{below}
use Rattle.xf_batch.specs.Making.{Asks}
use Rattle.xf_batch.proofs.generated_phases.look_up_all.Given as goal

abbrev pub invariant-loop-i : goal.invariant-loop-i
invariant-loop-i l =
    Asks l.fn.made l.made (map (λ i. look_up l.worker ((i + value_at 0 l.fn.made.x % 500) % 500)) (below l.i)) 1
