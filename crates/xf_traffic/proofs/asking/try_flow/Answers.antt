use Rattle.std.proofs.Common.{ap, sym, ◌∙◌}
use Rattle.xf_types.specs.declared.call.Reply.{Reply}
use Rattle.xf_types.specs.Changes.{stays}
use Rattle.xf_traffic.proofs.Answered.{tried_is}
use Rattle.xf_traffic.proofs.asking.try_flow.Goals as goal

pub returns-clause-answer : goal.returns-clause-answer
returns-clause-answer g c = λ image s policies entries agrees order on_policies st.
    tried_is s c.args.flow.now c.ask.result (c.ask.ensures.answer image s policies entries agrees order on_policies st)
    ∙ ap (λ (r : Reply). stays r) (sym c.tried.ensures)
