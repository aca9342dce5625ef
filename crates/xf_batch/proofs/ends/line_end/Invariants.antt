use Rattle.std.proofs.Common.{◌≡◌, take, false}
use Rattle.xf_lex.specs.declared.quoting.Quoting.TheVariants.{Bare}
use Rattle.xf_batch.specs.LineEnds.{ends_within}
use Rattle.xf_batch.specs.Scans.{quoting_behind}
use Rattle.xf_batch.proofs.ends.line_end.Given as goal

abbrev pub invariant-loop-i : goal.invariant-loop-i
invariant-loop-i l = record {
  quoting : l.quoting ≡ quoting_behind Bare (take l.i l.bytes);
  goes_on : ends_within Bare (take l.i l.bytes) ≡ false;
}
