use Rattle.std.proofs.Common.{◌*◌, take}
use Rattle.xf_batch.specs.Shown.{lines_shown}
use Rattle.xf_run.specs.Generated.{CountsLines}
use Rattle.xf_run.specs.Heard.{HearsAtMost, Sums}
use Rattle.xf_run.specs.Progress.{GrowsBy}
use Rattle.xf_run.proofs.generated.count_tasks.Given as goal

abbrev pub invariant-tasks : goal.invariant-tasks
invariant-tasks l = record {
  counted : CountsLines l.fn.machine l.machine (lines_shown (take l.task-index l.tasks)) l.refused l.fn.tally l.tally;
  few_heard : HearsAtMost (7 * l.task-index) (Sums l.fn.tally) (Sums l.tally);
  grows : GrowsBy (7 * l.task-index) l.fn.machine.shown l.machine.shown;
}
