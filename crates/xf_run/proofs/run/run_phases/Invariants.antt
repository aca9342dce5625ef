use Rattle.std.proofs.Common.{◌≡◌, ◌≤◌, ◌+◌, ◌-◌, true, false, if◌then◌else◌}
use Rattle.std.specs.Io.KnownBytes.{IsAtEnd}
use Rattle.xf_batch.specs.Batch.{limit}
use Rattle.xf_run.specs.Phases.{IsBounded}
use Rattle.xf_run.proofs.SoFar.{SoFar}
use Rattle.xf_run.proofs.run.run_phases.Given as goal

abbrev pub invariant-phases : goal.invariant-phases
invariant-phases g l = record {
  so_far : SoFar (g.C.Clock.coming l.fn.clock) (g.C.Clock.coming l.clock) (g.S.Source.left l.fn.src) (g.S.Source.left l.src) l.reader.unread l.more l.machine l.refused (g.K.Sink.text l.fn.out) (g.K.Sink.text l.out);
  bounded : IsBounded l.machine l.reader.unread;
  whole : l.more ≡ false → l.reader.unread.ended ≡ true;
  end : l.reader.unread.ended ≡ true → IsAtEnd (g.S.Source.left l.src);
  read : g.S.Source.faults l.fn.src ≤ g.S.Source.faults l.src;
  written : g.K.Sink.faults l.fn.out ≤ g.K.Sink.faults l.out;
}

abbrev pub decreases-phases : goal.decreases-phases
decreases-phases g l = if l.more then (limit + 1 - l.reader.unread.before) else 0
