use Rattle.std.proofs.Common.{◌≡◌, ◌<◌, ◌*◌, ◌^◌, drop, true}
use Rattle.xf_grammar.specs.Numbers.{hex_from, are_hex_digits}
use Rattle.xf_grammar.proofs.number.hex_value.Given as goal

abbrev pub invariant-loop-digit : goal.invariant-loop-digit
invariant-loop-digit l = record {
  so_far : hex_from l.value (drop l.digit-index l.digits) ≡ hex_from 0 l.digits;
  rest : are_hex_digits (drop l.digit-index l.digits) ≡ true;
  small : l.value < 2 ^ (4 * l.digit-index);
}
