use Rattle.std.proofs.Common.{arith}
use Rattle.xf_run.proofs.SoFar.{so_far_none, so_far_next}
use Rattle.xf_run.proofs.Ending.{stop_all, done_all, refused_all}
use Rattle.xf_run.proofs.run.run_phases.Goals as goal

pub phases-init : goal.phases-init
phases-init g c = record {
  so_far = rw (c.requires.start) (so_far_none _ _ c.args.reader.unread _ c.requires.fresh);
  bounded = rw (c.requires.start) (record { numbers = omega arith; sids = omega arith });
  whole = λ e. absurd (cc e);
  end = λ e. absurd (cc (e, c.requires.fresh.ended));
  read = omega arith;
  written = omega arith;
}

pub phases-preserved : goal.phases-preserved
phases-preserved g c = record {
  so_far =
      so_far_next _ _ _ _ _ _ c.phases.reader.unread c.in-Ok.run' c.phases.machine c.run_next.new.machine c.phases.refused _ _ _
      (rw (c.phases-test.true) at c.phases.invariant.so_far) c.in-Ok.ensures.next;
  bounded = c.in-Ok.ensures.keeps.bounded;
  whole = c.in-Ok.ensures.keeps.whole;
  end = c.in-Ok.ensures.end c.phases.invariant.end;
  read = omega (arith, c.in-Ok.ensures.later.0, c.phases.invariant.read);
  written = omega (arith, c.in-Ok.ensures.later.1, c.phases.invariant.written);
}

pub returns-in-Err-clause-outcome : goal.returns-in-Err-clause-outcome
returns-in-Err-clause-outcome g c =
    stop_all c.in-Err.status _ _ _ _ _ _ c.phases.reader.unread c.phases.machine c.run_next.new.machine c.phases.refused _ _ _
    (rw (c.phases-test.true) at c.phases.invariant.so_far) c.in-Err.ensures.next c.in-Err.ensures.may_end

pub returns-then-refused-clause-outcome : goal.returns-then-refused-clause-outcome
returns-then-refused-clause-outcome g c =
    refused_all _ _ _ _ c.phases.reader.unread c.phases.machine _ _ (rw (c.phases-test.false, c.if-refused.true) at c.phases.invariant.so_far)
    (c.phases.invariant.end (c.phases.invariant.whole c.phases-test.false))

pub returns-clause-outcome : goal.returns-clause-outcome
returns-clause-outcome g c =
    done_all _ _ _ _ c.phases.reader.unread c.phases.machine _ _ (rw (c.phases-test.false, c.if-refused.false) at c.phases.invariant.so_far)
    (c.phases.invariant.end (c.phases.invariant.whole c.phases-test.false))
