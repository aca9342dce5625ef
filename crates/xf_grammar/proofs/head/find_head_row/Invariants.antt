use Rattle.std.proofs.Common.{◌≡◌, drop}
use Rattle.xf_grammar.specs.Heads.{head_row_in}
use Rattle.xf_grammar.proofs.head.find_head_row.Given as goal

abbrev pub invariant-loop-row : goal.invariant-loop-row
invariant-loop-row l = head_row_in (drop l.row-index l.rows) l.word ≡ head_row_in l.rows l.word
