use Rattle.std.proofs.Common.{◌≡◌, length}
use Rattle.xf_lex.specs.Plain.{left}
use Rattle.xf_grammar.specs.Heads.{head_of}
use Rattle.xf_grammar.proofs.head.read_head.Given as goal

abbrev pub invariant-words : goal.invariant-words
invariant-words l = head_of l.table (left l.words) ≡ head_of l.fn.table (left l.initial.words)

abbrev pub decreases-words : goal.decreases-words
decreases-words l = length (left l.words)
