use Rattle.std.proofs.Common.{arith, sym}
use Rattle.xf_words.proofs.Digits.{number_past}
use Rattle.xf_words.proofs.decimal.read_number.Goals as goal

pub returns-then-value-from-clause-number : goal.returns-then-value-from-clause-number
returns-then-value-from-clause-number c =
    number_past c.args.low c.args.high c.args.word.now c.loop-digit.digit-index c.loop-digit.value (sym c.if-not-is_decimal.ensures)
    c.loop-digit.invariant.0 (omega arith) (omega (arith, c.saturating_sub.ensures, c.from.ensures))
