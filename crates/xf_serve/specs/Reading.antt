-- The calls that only read.
use Rattle.xf_types.specs.declared.call.Call.{Call}
use Rattle.xf_types.specs.declared.call.Call.TheVariants as call

abbrev pub OnlyReads : Call → Type 0
OnlyReads (call.PolicyGet key) = Unit {0}
OnlyReads (call.PolicyList filter) = Unit {0}
OnlyReads call.PolicyCount = Unit {0}
OnlyReads (call.StateGet id) = Unit {0}
OnlyReads (call.StateList filter) = Unit {0}
OnlyReads call.StateCount = Unit {0}
OnlyReads other = ⊥
