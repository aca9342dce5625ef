-- As many values are behind as rounds were made.
use Rattle.std.proofs.Common.{◌≡◌}
use Rattle.xf_batch.specs.GeneratedCalls.{x_after}
use Rattle.xf_batch.proofs.generated.x_at.Given as goal

abbrev pub invariant-loop : goal.invariant-loop
invariant-loop l = l.x ≡ x_after l.counter l.initial.x
