use Rattle.std.proofs.Common.{◌≡◌, drop}
use Rattle.xf_grammar.specs.Lookups.{has_any}
use Rattle.xf_grammar.proofs.lookup.has_any.Given as goal

abbrev pub invariant-loop-slot : goal.invariant-loop-slot
invariant-loop-slot l = has_any (drop l.slot-index l.slots) l.fields ≡ has_any l.slots l.fields
