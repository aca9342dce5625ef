use Rattle.std.proofs.Common.{sym, ◌∙◌}
use Rattle.xf_statecalls.proofs.Read.{none_there, some_there}
use Rattle.xf_statecalls.proofs.finding.state_there.Goals as goal

pub returns-in-None-clause-state : goal.returns-in-None-clause-state
returns-in-None-clause-state g c = λ image s entries test agrees st is. none_there c.args.layout.now.states image s entries test st (sym c.in-None.is ∙ is)

pub returns-in-Some-clause-state : goal.returns-in-Some-clause-state
returns-in-Some-clause-state g c = λ image s entries test agrees st is.
    c.state.ensures.answer image agrees ∙ some_there c.args.layout.now.states image s entries test c.in-Some.slot st (sym c.in-Some.is ∙ is)
