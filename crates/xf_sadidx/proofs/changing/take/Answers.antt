use Rattle.std.proofs.Common.{subst, sym}
use Rattle.xf_chain.specs.declared.family.Family.{Family}
use Rattle.xf_chain.specs.Families.{IsOf}
use Rattle.xf_sadidx.proofs.changing.take.Goals as goal

pub remove-requires-clause-number : goal.remove-requires-clause-number
remove-requires-clause-number g c =
    subst (λ (f : Family). IsOf f c.head-number.result) (sym c.chains.ensures) (c.head-number.ensures.below c.args.area.now)
