use Rattle.std.proofs.Common.{arith, ◌≡◌, Option, Some, ap, sym, ◌∙◌}
use Rattle.xf_types.specs.declared.policy.Policy.{Policy}
use Rattle.xf_types.specs.PolicyList.{first_policy}
use Rattle.xf_sadfind.specs.Tried.{policy_met}
use Rattle.xf_traffic.specs.Paths.{flow_met}
use Rattle.xf_traffic.proofs.Answered.{no_policy}
use Rattle.xf_traffic.proofs.asking.ask.Goals as goal

pub returns-in-None-clause-few : goal.returns-in-None-clause-few
returns-in-None-clause-few g c = λ image s policies entries h agrees order st. let one = c.first.ensures.few image s policies h agrees in omega (arith, one)

pub returns-in-None-clause-answer : goal.returns-in-None-clause-answer
returns-in-None-clause-answer g c = λ image s policies entries agrees order on_policies st.
    no_policy s c.args.flow.now (sym (c.first.ensures.answer image s policies agrees order on_policies) ∙ c.in-None.is)

pub returns-in-Some-clause-few : goal.returns-in-Some-clause-few
returns-in-Some-clause-few g c = λ image s policies entries h agrees order st.
    let before = c.ask_policy.ensures.among.among image agrees in
    let one = c.first.ensures.few image s policies h before in
    let two = c.ask_policy.ensures.few image s entries agrees st in
    let first : first_policy s.policies c.args.flow.now ≡ Some c.in-Some.policy = sym (c.first.ensures.answer image s policies before order h) ∙ c.in-Some.is in
    let met : flow_met c.args.layout.now.states image entries c.args.flow.now (first_policy s.policies c.args.flow.now)
    ≡ policy_met c.args.layout.now.states image entries c.args.flow.now c.in-Some.policy =
    ap (λ (o : Option Policy). flow_met c.args.layout.now.states image entries c.args.flow.now o) first in
    omega (arith, one, two, met)

pub returns-in-Some-clause-answer : goal.returns-in-Some-clause-answer
returns-in-Some-clause-answer g c = λ image s policies entries agrees order on_policies st.
    c.ask_policy.ensures.answer image s entries agrees st
    (sym (c.first.ensures.answer image s policies (c.ask_policy.ensures.among.among image agrees) order on_policies) ∙ c.in-Some.is)
