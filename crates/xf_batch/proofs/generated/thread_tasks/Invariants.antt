-- The lines are those of the thread among the workers before.
use Rattle.std.proofs.Common.{◌≡◌}
use Rattle.std.specs.List.{flat_map}
use Rattle.xf_types.specs.Batch.{calls_of_thread}
use Rattle.xf_batch.specs.Generated.{below, part}
use Rattle.xf_batch.specs.Shown.{lines_shown}
use Rattle.xf_batch.proofs.generated.thread_tasks.Given as goal

abbrev pub invariant-loop-worker : goal.invariant-loop-worker
invariant-loop-worker l =
    lines_shown l.tasks.items ≡ calls_of_thread l.workers (flat_map (part l.seed l.phase) (below l.worker)) l.thread
