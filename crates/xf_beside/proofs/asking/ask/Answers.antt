use Rattle.std.proofs.Common.{◌≡◌, Option, subst}
use Rattle.std.specs.Prelude.{IfSome}
use Rattle.xf_types.specs.declared.call.Reply.{Reply}
use Rattle.xf_types.specs.declared.policy.Policy.{Policy}
use Rattle.xf_types.specs.Changes.{stays}
use Rattle.xf_types.specs.FlowRules.{by_policy}
use Rattle.xf_beside.proofs.asking.ask.Goals as goal

pub returns-in-Some-clause-answer : goal.returns-in-Some-clause-answer
returns-in-Some-clause-answer g c = λ s es wants order st.
    subst (λ (o : Option Policy). IfSome c.under.result (λ (reply : Reply). by_policy s c.args.flow.now wants o ≡ stays reply))
    (c.in-Some.ensures.answer s es order st) (c.under.ensures s (wants c.in-Some.policy))
