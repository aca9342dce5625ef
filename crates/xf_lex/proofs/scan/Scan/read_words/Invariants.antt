use Rattle.std.proofs.Common.{◌≡◌, ◌≤◌, length}
use Rattle.xf_lex.specs.Lines.{scanned_from, line_start}
use Rattle.xf_lex.specs.Shown.{scanned}
use Rattle.xf_lex.proofs.scan.Scan.read_words.Given as goal

abbrev pub invariant-bytes : goal.invariant-bytes
invariant-bytes l = record {
  so_far : scanned_from (scanned l.self) l.rest ≡ scanned_from line_start l.bytes;
  short : l.self.length ≤ 4096;
}

abbrev pub decreases-bytes : goal.decreases-bytes
decreases-bytes l = length l.rest
