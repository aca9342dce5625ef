use Rattle.std.proofs.Common.{◌≡◌, ◌+◌, drop}
use Rattle.xf_lex.specs.Plain.{gap_count}
use Rattle.xf_lex.proofs.words.gap_count.Given as goal

abbrev pub invariant-loop-i : goal.invariant-loop-i
invariant-loop-i l = l.i + gap_count (drop l.i l.bytes) ≡ gap_count l.bytes
