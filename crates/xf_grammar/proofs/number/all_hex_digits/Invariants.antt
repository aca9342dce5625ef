use Rattle.std.proofs.Common.{◌≡◌, drop}
use Rattle.xf_grammar.specs.Numbers.{are_hex_digits}
use Rattle.xf_grammar.proofs.number.all_hex_digits.Given as goal

abbrev pub invariant-loop-digit : goal.invariant-loop-digit
invariant-loop-digit l = are_hex_digits (drop l.digit-index l.word) ≡ are_hex_digits l.word
