use Rattle.std.proofs.Common.{◌≡◌, []}
use Rattle.xf_types.specs.Batch.{threads_of}
use Rattle.xf_batch.specs.Shown.{threads_shown}
use Rattle.xf_batch.proofs.gather.Gather.new.Given as goal

abbrev pub invariant-loop : goal.invariant-loop
invariant-loop l = threads_shown l.threads.items ≡ threads_of l.counter []
