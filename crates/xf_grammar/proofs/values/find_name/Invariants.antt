use Rattle.std.proofs.Common.{◌≡◌, drop}
use Rattle.xf_grammar.specs.Grammar.{name_in}
use Rattle.xf_grammar.proofs.values.find_name.Given as goal

abbrev pub invariant-loop-name : goal.invariant-loop-name
invariant-loop-name l = name_in (drop l.name-index l.names) l.word ≡ name_in l.names l.word
