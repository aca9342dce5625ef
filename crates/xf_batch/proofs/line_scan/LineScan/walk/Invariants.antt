use Rattle.std.proofs.Common.{ℕ, ◌-◌, ◌≤◌, List, ◌++◌, length, take}
use Rattle.xf_lex.specs.Lines.{line_limit}
use Rattle.xf_batch.specs.Scans.{Scans}
use Rattle.xf_batch.proofs.line_scan.LineScan.walk.Given as goal

abbrev pub invariant-bytes : goal.invariant-bytes
invariant-bytes l = record {
  scans : (front : List ℕ) → Scans front l.fn.self → Scans (front ++ take l.i l.piece) l.self;
  short : l.self.length ≤ line_limit;
  within : l.i ≤ length l.piece;
}

abbrev pub decreases-bytes : goal.decreases-bytes
decreases-bytes l = length l.piece - l.i
