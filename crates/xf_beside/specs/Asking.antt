-- Whether a flow asks for states.
use Rattle.std.specs.Prelude.{Bool, true, false, List, [], ◌∷◌}
use Rattle.xf_types.specs.declared.network.Flow.{Flow}
use Rattle.xf_types.specs.declared.policy.Policy.{Policy}
use Rattle.xf_types.specs.declared.policy.Template.{Template}
use Rattle.xf_types.specs.FlowRules.{templates_for}

abbrev pub are_any : List Template → Bool
are_any [] = false
are_any (t ∷ templates) = true

-- the policy has templates for the flow
abbrev pub wants_states : Policy → Flow → Bool
wants_states p flow = are_any (templates_for flow.dir p.spec.templates)
