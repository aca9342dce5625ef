use Rattle.std.proofs.Common.{Option, ap, ◌∙◌}
use Rattle.xf_types.specs.declared.state.Sa.{Sa}
use Rattle.xf_types.specs.StateList.{has_id}
use Rattle.xf_types.specs.StateRules.{state_shown}
use Rattle.xf_statecalls.proofs.getting.state_get.Goals as goal

pub returns-clause-answer : goal.returns-clause-answer
returns-clause-answer g c = λ image s entries agrees st.
    c.state_reply.ensures
    ∙ ap (λ (o : Option Sa). (state_shown o).reply)
    (c.state_there-state.ensures.state image s entries (has_id c.args.id.now) agrees st
    (c.state_found-slot.ensures.state image s entries (c.state_there-state.ensures.among.among image agrees) st))
