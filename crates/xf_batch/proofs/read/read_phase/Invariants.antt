use Rattle.std.proofs.Common.{◌-◌, ◌+◌, ◌≤◌}
use Rattle.xf_batch.specs.Batch.{limit}
use Rattle.xf_batch.proofs.Phasing.{Reached}
use Rattle.xf_batch.proofs.read.read_phase.Given as goal

abbrev pub invariant-lines : goal.invariant-lines
invariant-lines g l = record {
  reached : Reached l.workers l.now l.fn.r.unread l.unread (g.S.Source.left l.fn.src) (g.S.Source.left l.src) (g.S.Source.faults l.fn.src) (g.S.Source.faults l.src) l.gather;
  later : g.S.Source.faults l.fn.src ≤ g.S.Source.faults l.src;
}

abbrev pub decreases-lines : goal.decreases-lines
decreases-lines g l = limit + 1 - l.unread.before
