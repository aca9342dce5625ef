use Rattle.std.proofs.Common.{◌∙◌, sym, arith, refl}
use Rattle.xf_batch.specs.Shown.{threads_shown}
use Rattle.xf_run.proofs.Lengths.{tasks_few}
use Rattle.xf_run.proofs.Taking.{next_cut, next_broken}
use Rattle.xf_run.proofs.run.run_next.Goals as goal

pub returns-in-Ok-clause-keeps : goal.returns-in-Ok-clause-keeps
returns-in-Ok-clause-keeps g c =
    let few = tasks_few c.tasks.result.now (threads_shown c.in_ok-phase.phase.threads.items) c.tasks.ensures.tasks in
    record {
      whole = λ e. c.in_ok-phase.ensures.passed.whole.0 (sym c.more.ensures.more ∙ e);
      further = λ e. let passed = c.in_ok-phase.ensures.passed in passed.further (passed.synced (sym c.more.ensures.more ∙ e));
      bounded = record {
        numbers =
            omega (arith, c.in-Ok.ensures.grows.numbers, c.requires.numbers, c.in_ok-phase.ensures.passed.few, few);
        sids = omega (arith, c.in-Ok.ensures.grows.sids, c.requires.sids, c.in_ok-phase.ensures.passed.few, few);
      };
    }

pub returns-in-Err-Memory-clause-next : goal.returns-in-Err-Memory-clause-next
returns-in-Err-Memory-clause-next g c = record {
  now = c.now-now.result;
  in_range = omega arith;
  asked = c.now-now.ensures;
  runs =
      next_cut _ _ _ _ _ c.args.machine.now c.in_ok-phase.phase c.in_ok-phase.reader _ _ _ _ c.tasks.ensures.tasks c.in_ok-phase.ensures.phase
      (c.in-Err-Memory.ensures.memory (rw c.in-Err-Memory.field-0-is refl)) c.in_ok-phase.ensures.same;
}

pub returns-clause-next : goal.returns-clause-next
returns-clause-next g c = record {
  now = c.now-now.result;
  in_range = omega arith;
  asked = c.now-now.ensures;
  runs =
      next_broken _ _ _ _ _ c.args.machine.now c.in_ok-phase.phase c.in_ok-phase.reader _ _ _ _ c.tasks.ensures.tasks c.in_ok-phase.ensures.phase
      (c.in-Err-Write.ensures.write (rw c.in-Err-Write.field-0-is refl)) c.in_ok-phase.ensures.same;
}
