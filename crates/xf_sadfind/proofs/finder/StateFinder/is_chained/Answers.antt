use Rattle.std.proofs.Common.{ap, sym, ◌∙◌}
use Rattle.xf_chain.specs.declared.chain.Chain.{Chain}
use Rattle.xf_chain.specs.Chains.{slots_of}
use Rattle.xf_sadidx.specs.declared.kind.Kind.TheVariants.{Spi}
use Rattle.xf_sadfind.proofs.Guesses.{is_among, among_chained}
use Rattle.xf_sadfind.proofs.finder.StateFinder.is_chained.Goals as goal

pub returns-in-Some-clause-state : goal.returns-in-Some-clause-state
returns-in-Some-clause-state g c = λ image entries agrees st t.
    among_chained c.args.self.now.area image Spi c.in-Some.hash c.args.slot entries st
    (sym (c.passes.ensures.answer image agrees
    ∙ ap (λ (chain : Chain). is_among c.args.slot (slots_of chain image)) (c.whole_chain-chain.ensures.answer image (c.passes.ensures.among.among image agrees)))
    ∙ t)
