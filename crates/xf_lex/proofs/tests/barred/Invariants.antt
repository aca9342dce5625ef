use Rattle.std.proofs.Common.{length}
use Rattle.xf_lex.specs.Plain.{left}
use Rattle.xf_lex.proofs.tests.barred.Given as goal

abbrev pub decreases-loop-word : goal.decreases-loop-word
decreases-loop-word l = length (left l.words)
