use Rattle.std.proofs.Common.{arith}
use Rattle.xf_run.proofs.Progressing.{ran_next, stops_behind, stops_within}
use Rattle.xf_run.proofs.tasks.run_tasks.Goals as goal

pub tasks-preserved : goal.tasks-preserved
tasks-preserved g c = record {
  ran =
      ran_next c.args.tasks.now c.tasks.task-index c.task-item.result c.args.machine.now c.tasks.machine c.answer.new.machine
      c.tasks.refused c.in-Ok.refusal _ _ _ (omega arith) c.task-item.is c.tasks.invariant.ran c.in-Ok.ensures.ok;
  later = omega (arith, c.in-Ok.ensures.later);
  grows = record {
    numbers = omega (arith, c.in-Ok.ensures.grows.numbers, c.tasks.invariant.grows.numbers);
    sids = omega (arith, c.in-Ok.ensures.grows.sids, c.tasks.invariant.grows.sids);
  };
}

pub returns-in-Err-clause-memory : goal.returns-in-Err-clause-memory
returns-in-Err-clause-memory g c = λ e.
    stops_behind c.args.tasks.now c.tasks.task-index c.args.machine.now c.tasks.machine c.tasks.refused _ _ _ c.tasks.invariant.ran
    (c.in-Err.ensures.memory e)

pub returns-in-Err-clause-write : goal.returns-in-Err-clause-write
returns-in-Err-clause-write g c = λ e.
    stops_within c.args.tasks.now c.tasks.task-index c.task-item.result c.args.machine.now c.tasks.machine c.answer.new.machine
    c.tasks.refused _ _ _ (omega arith) c.task-item.is c.tasks.invariant.ran (c.in-Err.ensures.write e)
