use Rattle.std.proofs.Common.{◌≡◌, ◌≤◌, drop}
use Rattle.xf_words.specs.Numbers.{value_from}
use Rattle.xf_words.proofs.decimal.read_number.Given as goal

abbrev pub invariant-loop-digit : goal.invariant-loop-digit
invariant-loop-digit l = (value_from l.value (drop l.digit-index l.word) ≡ value_from 0 l.word) × (l.value ≤ l.high)
