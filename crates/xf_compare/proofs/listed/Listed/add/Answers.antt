use Rattle.std.proofs.Common.{◌<◌, ℕ, subst}
use Rattle.xf_compare.proofs.Replacing.{none_back}
use Rattle.xf_compare.proofs.listed.Listed.add.Goals as goal

pub add-requires-clause-below : goal.add-requires-clause-below
add-requires-clause-below c = λ slot gives. subst (λ (n : ℕ). slot < n) c.self.invariant.room (c.self.inside.pool.free.below slot gives.is)

pub add-requires-clause-back : goal.add-requires-clause-back
add-requires-clause-back c = none_back _ c.self.inside.sad.area c.self.inside.cells.items.items c.args.spec.now c.requires
