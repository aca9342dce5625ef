use Rattle.std.proofs.Common.{◌≡◌, ◌++◌, map, take, drop}
use Rattle.xf_types.specs.TickRules.{policy_later}
use Rattle.xf_plain.proofs.aging.age_all.Given as goal

abbrev pub invariant-loop-policy : goal.invariant-loop-policy
invariant-loop-policy l =
    l.policy-items ≡ map (policy_later l.now) (take l.policy-index l.fn.policies.items) ++ drop l.policy-index l.fn.policies.items
