use Rattle.xf_run.proofs.Generating.{phase_counted}
use Rattle.xf_run.proofs.generated.count_phase.Goals as goal

pub returns-clause-ok : goal.returns-clause-ok
returns-clause-ok c =
    phase_counted c.args.machine.now c.count_tasks.new.machine c.tasks-tasks.result.now _ c.in_ok-refused.refused c.args.tally.now
    c.add_lines.new.self c.count_tasks.new.tally c.tasks-tasks.ensures.tasks c.add_lines.ensures.lines c.in_ok-refused.ensures.ok
