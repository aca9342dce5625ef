-- The policies and states 2k below the next one are asked to be deleted.
use Rattle.std.proofs.Common.{◌*◌, ◌∷◌, []}
use Rattle.std.specs.List.{flat_map}
use Rattle.xf_batch.specs.GeneratedCalls.{delete_policy, delete_state}
use Rattle.xf_batch.specs.Generated.{below}
use Rattle.xf_batch.specs.Making.{Asks}
use Rattle.xf_batch.proofs.generated_phases.delete_half.Given as goal

abbrev pub invariant-loop-k : goal.invariant-loop-k
invariant-loop-k l =
    Asks l.initial.made l.made
    (flat_map (λ k. delete_policy l.worker (2 * k) ∷ delete_state l.worker (2 * k) ∷ []) (below l.k)) 0
