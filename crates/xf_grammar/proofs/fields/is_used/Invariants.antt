use Rattle.std.proofs.Common.{◌≡◌, drop}
use Rattle.xf_grammar.specs.Grammar.{was_used}
use Rattle.xf_grammar.specs.Seen.{uses}
use Rattle.xf_grammar.proofs.fields.is_used.Given as goal

abbrev pub invariant-loop-u : goal.invariant-loop-u
invariant-loop-u l = was_used (uses (drop l.u-index l.used)) l.group l.word ≡ was_used (uses l.used) l.group l.word
