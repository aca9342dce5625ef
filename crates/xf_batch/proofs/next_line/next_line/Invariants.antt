use Rattle.std.proofs.Common.{◌+◌, ◌-◌, ◌≤◌, length, take, if◌then◌else◌}
use Rattle.xf_batch.specs.Coming.{Grows, room_of}
use Rattle.xf_batch.specs.Reading.{unread_bytes}
use Rattle.xf_batch.specs.Scans.{Scans}
use Rattle.xf_batch.proofs.next_line.next_line.Given as goal

abbrev pub invariant-search : goal.invariant-search
invariant-search g l = record {
  grows : Grows l.fn.unread l.unread (g.S.Source.left l.fn.src) (g.S.Source.left l.src) (g.S.Source.faults l.fn.src) (g.S.Source.faults l.src);
  scans : Scans (take l.walked (unread_bytes l.unread)) l.scan;
  within : l.walked ≤ length (unread_bytes l.unread);
  seen : l.walked ≤ room_of l.unread;
  later : g.S.Source.faults l.fn.src ≤ g.S.Source.faults l.src;
}

abbrev pub decreases-search : goal.decreases-search
decreases-search g l = (room_of l.unread - length (unread_bytes l.unread)) + (if l.unread.ended then 0 else 1)
