use Rattle.std.proofs.Common.{◌<◌, length, subst}
use Rattle.xf_types.specs.declared.policy.Policy.{Policy}
use Rattle.xf_types.specs.TickRules.{policy_later}
use Rattle.xf_states.proofs.Walks.{mapped-more}
use Rattle.xf_plain.proofs.aging.age_all.Goals as goal

pub loop-policy-preserved : goal.loop-policy-preserved
loop-policy-preserved c =
    mapped-more (policy_later c.args.now) c.args.policies.now.items c.loop-policy.policy-items c.loop-policy.policy-index
    c.policy-item.result c.age.new.policy
    (subst (λ ps. c.loop-policy.policy-index < length {A = Policy} ps) c.deref_mut-policy-items.ensures.value c.loop-policy-test.true)
    c.loop-policy.invariant c.age.ensures
