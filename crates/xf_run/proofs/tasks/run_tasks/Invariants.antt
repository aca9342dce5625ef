use Rattle.std.proofs.Common.{◌≤◌, ◌*◌, take}
use Rattle.xf_batch.specs.Shown.{lines_shown}
use Rattle.xf_run.specs.Progress.{RunsLines, GrowsBy}
use Rattle.xf_run.proofs.tasks.run_tasks.Given as goal

abbrev pub invariant-tasks : goal.invariant-tasks
invariant-tasks g l = record {
  ran : RunsLines l.fn.machine l.machine (lines_shown (take l.task-index l.tasks)) l.refused (g.K.Sink.text l.fn.out) (g.K.Sink.text l.out);
  later : g.K.Sink.faults l.fn.out ≤ g.K.Sink.faults l.out;
  grows : GrowsBy (7 * l.task-index) l.fn.machine.shown l.machine.shown;
}
