use Rattle.std.proofs.Common.{◌≡◌, drop}
use Rattle.xf_grammar.specs.Lookups.{value_in_group}
use Rattle.xf_grammar.proofs.lookup.value_among.Given as goal

abbrev pub invariant-loop-field : goal.invariant-loop-field
invariant-loop-field l = value_in_group l.group l.slot (drop l.field-index l.fields) ≡ value_in_group l.group l.slot l.fields
