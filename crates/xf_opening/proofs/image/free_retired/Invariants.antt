use Rattle.xf_opening.specs.Freed.{AreFreed}
use Rattle.xf_opening.proofs.image.free_retired.Given as goal

abbrev pub invariant-slots : goal.invariant-slots
invariant-slots l = AreFreed l.slot l.initial.words.items l.words.items
