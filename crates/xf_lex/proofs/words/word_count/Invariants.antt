use Rattle.std.proofs.Common.{◌≡◌, ◌+◌, drop}
use Rattle.xf_lex.specs.Plain.{word_count}
use Rattle.xf_lex.proofs.words.word_count.Given as goal

abbrev pub invariant-loop-i : goal.invariant-loop-i
invariant-loop-i l = l.i + word_count (drop l.i l.bytes) ≡ word_count l.bytes
