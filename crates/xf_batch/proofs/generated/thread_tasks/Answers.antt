-- The part of a worker is the thread's, or it isn't.
use Rattle.std.proofs.Common.{◌≡◌, ◌+◌, ◌++◌, ap, sym, ◌∙◌, arith}
use Rattle.std.specs.List.{flat_map}
use Rattle.xf_types.specs.Batch.{calls_of_thread}
use Rattle.xf_batch.specs.Generated.{below, generated, jobs_in, numbered, part, worker_line}
use Rattle.xf_batch.specs.Shown.{lines_shown}
use Rattle.xf_batch.proofs.MakingLines.{flat_map-below-none}
use Rattle.xf_batch.proofs.GeneratedThreads.{part-own, part-other}
use Rattle.xf_batch.proofs.generated.thread_tasks.Goals as goal
use Rattle.xf_batch.proofs.generated.thread_tasks.Goals.{then-worker-workers+in_ok-tasks, else-worker-workers}

pub loop-worker-init : goal.loop-worker-init
loop-worker-init c =
    ap lines_shown c.new-tasks.ensures.items
    ∙ ap (λ ls. calls_of_thread c.args.workers ls c.args.thread) (sym (flat_map-below-none (part c.args.seed c.args.phase)))

pub loop-worker-preserved : goal.loop-worker-preserved
loop-worker-preserved c =
    let w = c.loop-worker.worker in
    elim c.if-worker-workers.branch [
      | then-worker-workers+in_ok-tasks b ↦
          ap (λ v. lines_shown v.items) b.tasks-is ∙ b.in_ok-tasks.ensures
          ∙ ap (λ ls. ls ++ numbered (worker_line c.args.seed c.args.phase w + 1) (jobs_in c.args.seed c.args.phase w)) c.loop-worker.invariant
          ∙ sym (part-own c.args.seed c.args.phase c.args.workers c.args.thread w b.if-worker-workers.true)
      | else-worker-workers b ↦
          ap (λ v. lines_shown v.items) b.tasks-is ∙ c.loop-worker.invariant
          ∙ sym (part-other c.args.seed c.args.phase c.args.workers c.args.thread w b.if-worker-workers.false)
    ]

pub returns : goal.returns
unfolding generated
returns c =
    let all : c.loop-worker.worker ≡ 4 = omega (arith, c.loop-worker-test.false, c.loop-worker.auto.worker-end) in
    c.loop-worker.invariant ∙ ap (λ w. calls_of_thread c.args.workers (flat_map (part c.args.seed c.args.phase) (below w)) c.args.thread) all
