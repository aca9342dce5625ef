use Rattle.std.proofs.Common.{◌≡◌, drop, take, []}
use Rattle.xf_lex.specs.declared.quoting.Quoting.TheVariants.{Bare}
use Rattle.xf_lex.specs.LogicalLines.{lines_from}
use Rattle.xf_lex.proofs.split.split_line.Given as goal

abbrev pub invariant-loop-i : goal.invariant-loop-i
invariant-loop-i l = lines_from l.quoting (take l.i l.bytes) (drop l.i l.bytes) ≡ lines_from Bare [] l.bytes
