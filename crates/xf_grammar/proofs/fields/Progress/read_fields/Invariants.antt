use Rattle.std.proofs.Common.{◌≡◌, length}
use Rattle.xf_grammar.specs.Grammar.{after_words, start}
use Rattle.xf_grammar.specs.Seen.{seen}
use Rattle.xf_lex.specs.Plain.{left}
use Rattle.xf_grammar.proofs.fields.Progress.read_fields.Given as goal

abbrev pub invariant-words : goal.invariant-words
invariant-words l =
    after_words l.tables (seen l.self) (left l.words) ≡ after_words l.tables (start l.fn.first) (left l.initial.words)

abbrev pub decreases-words : goal.decreases-words
decreases-words l = length (left l.words)
