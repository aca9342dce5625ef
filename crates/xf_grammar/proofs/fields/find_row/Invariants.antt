use Rattle.std.proofs.Common.{◌≡◌, drop}
use Rattle.xf_grammar.specs.Grammar.{row_in}
use Rattle.xf_grammar.proofs.fields.find_row.Given as goal

abbrev pub invariant-loop-row : goal.invariant-loop-row
invariant-loop-row l = row_in (drop l.row-index l.rows) l.word ≡ row_in l.rows l.word
