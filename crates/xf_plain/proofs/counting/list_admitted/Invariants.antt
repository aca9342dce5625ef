use Rattle.std.proofs.Common.{◌≡◌, filter, take}
use Rattle.xf_types.specs.PolicyList.{policy_meets}
use Rattle.xf_plain.proofs.counting.list_admitted.Given as goal

abbrev pub invariant-loop-policy : goal.invariant-loop-policy
invariant-loop-policy l = l.admitted.items ≡ filter (policy_meets l.wanted) (take l.policy-index l.policies)
