-- The threads so far have their lines.
use Rattle.std.proofs.Common.{◌≡◌, map}
use Rattle.xf_types.specs.Batch.{calls_of_thread}
use Rattle.xf_types.specs.Counters.{upwards}
use Rattle.xf_batch.specs.Generated.{generated}
use Rattle.xf_batch.specs.Shown.{threads_shown}
use Rattle.xf_batch.proofs.generated.generate.Given as goal

abbrev pub invariant-loop-thread : goal.invariant-loop-thread
invariant-loop-thread l =
    threads_shown l.threads.items ≡ map (calls_of_thread l.workers (generated l.seed l.phase)) (upwards 0 l.thread)
