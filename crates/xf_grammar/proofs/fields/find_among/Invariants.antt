use Rattle.std.proofs.Common.{◌≡◌, drop}
use Rattle.xf_grammar.specs.Grammar.{row_among}
use Rattle.xf_grammar.proofs.fields.find_among.Given as goal

abbrev pub invariant-loop-table : goal.invariant-loop-table
invariant-loop-table l = row_among (drop l.table-index l.tables) l.word ≡ row_among l.tables l.word
