use Rattle.std.proofs.Common.{◌≡◌, ◌≤◌, ◌+◌, ◌-◌, true, false, if◌then◌else◌}
use Rattle.std.specs.Io.KnownBytes.{IsAtEnd}
use Rattle.xf_batch.specs.Batch.{limit}
use Rattle.xf_run.proofs.Counting.{CountedSoFar}
use Rattle.xf_run.proofs.check.count_batch.Given as goal

abbrev pub invariant-phases : goal.invariant-phases
invariant-phases g l = record {
  so_far : CountedSoFar (g.S.Source.left l.fn.src) (g.S.Source.left l.src) l.reader.unread l.more l.phases l.lines;
  few_phases : l.phases ≤ l.reader.unread.before;
  few_lines : l.lines ≤ l.reader.unread.before;
  whole : l.more ≡ false → l.reader.unread.ended ≡ true;
  end : l.reader.unread.ended ≡ true → IsAtEnd (g.S.Source.left l.src);
  read : g.S.Source.faults l.fn.src ≤ g.S.Source.faults l.src;
}

abbrev pub decreases-phases : goal.decreases-phases
decreases-phases g l = if l.more then (limit + 1 - l.reader.unread.before) else 0
