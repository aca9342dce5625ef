use Rattle.std.proofs.Common.{arith, get_or}
use Rattle.std.proofs.lemmas.Grind.{common_steps}
use Rattle.xf_grammar.specs.Numbers.{hex_digit}
use Rattle.xf_grammar.proofs.HexValues.{hex_digit_small, hex_step, hex_fits, hex_next, hex_rest}
use Rattle.xf_grammar.proofs.number.hex_value.Goals as goal

pub overflow_mul-value : goal.overflow_mul-value
overflow_mul-value c =
    omega (arith, hex_fits c.loop-digit.value c.loop-digit.digit-index 0 c.loop-digit.invariant.small (omega (arith, c.loop-digit-test.true, c.requires.few)) (omega arith))

pub overflow_add-value : goal.overflow_add-value
overflow_add-value c =
    let d = hex_digit_small (get_or c.args.digits.now c.loop-digit.digit-index 0) (hex_next c.args.digits.now c.loop-digit.digit-index c.loop-digit-test.true c.loop-digit.invariant.rest) in
    omega (arith, c.from.ensures, c.hex_digit.ensures, hex_fits c.loop-digit.value c.loop-digit.digit-index (hex_digit (get_or c.args.digits.now c.loop-digit.digit-index 0)) c.loop-digit.invariant.small (omega (arith, c.loop-digit-test.true, c.requires.few)) d)

pub loop-digit-preserved : goal.loop-digit-preserved
loop-digit-preserved c =
    let d = hex_digit_small (get_or c.args.digits.now c.loop-digit.digit-index 0) (hex_next c.args.digits.now c.loop-digit.digit-index c.loop-digit-test.true c.loop-digit.invariant.rest) in
    let step = hex_step c.loop-digit.value c.loop-digit.digit-index (hex_digit (get_or c.args.digits.now c.loop-digit.digit-index 0)) c.loop-digit.invariant.small d in
    record {
      so_far = grind (arith, common_steps);
      rest = hex_rest c.args.digits.now c.loop-digit.digit-index c.loop-digit-test.true c.loop-digit.invariant.rest;
      small = rw (c.from.ensures, c.hex_digit.ensures) step;
    }
