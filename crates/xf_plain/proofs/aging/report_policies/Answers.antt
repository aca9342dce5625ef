use Rattle.xf_types.specs.TickRules.{policy_event}
use Rattle.xf_states.proofs.Walks.{collects}
use Rattle.xf_plain.proofs.aging.report_policies.Goals as goal

pub loop-policy-preserved : goal.loop-policy-preserved
loop-policy-preserved c =
    collects (policy_event c.args.now) c.args.policies.now c.loop-policy.policy-index c.policy-item.result
    c.args.events.now.items c.loop-policy.events.items c.push_some.new.events.items c.event.result c.loop-policy-test.true
    c.policy-item.is c.in_ok-push_some.ensures c.loop-policy.invariant c.event.ensures
