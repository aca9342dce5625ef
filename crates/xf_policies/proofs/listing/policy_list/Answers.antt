use Rattle.std.proofs.Common.{List, ◌++◌, filter, ap, sym, ◌∙◌}
use Rattle.xf_types.specs.declared.call.Reply.TheVariants as reply
use Rattle.xf_types.specs.declared.policy.Policy.{Policy}
use Rattle.xf_types.specs.PolicyList.{policy_meets}
use Rattle.xf_policies.specs.declared.listing.Admitted.{Admitted}
use Rattle.xf_policies.proofs.Gathered.{not_err, admitted}
use Rattle.xf_policies.proofs.listing.policy_list.Goals as goal

pub returns-clause-answer : goal.returns-clause-answer
returns-clause-answer g c = λ image s es agrees st some.
    ap (λ (ps : List Policy). reply.PolicyList ps)
    (c.new.ensures
    ∙ (admitted _ (λ (v : Admitted). v.wanted) (λ (v : Admitted). v.found.items) policy_meets (λ v u p h. h) _ c.walk.new.visitor s.policies
    (not_err c.walk.result _ (sym c.is_err.ensures.value ∙ c.if-is_err.false) (c.walk.ensures.visited image s es agrees st))
    ∙ ap (λ (ps : List Policy). ps ++ filter (policy_meets c.args.wanted.now) s.policies) c.in-Ok.ensures.items))
