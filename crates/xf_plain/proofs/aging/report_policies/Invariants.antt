use Rattle.std.proofs.Common.{◌≡◌, ◌++◌, take}
use Rattle.std.specs.Prelude.{filter_map}
use Rattle.xf_types.specs.TickRules.{policy_event}
use Rattle.xf_plain.proofs.aging.report_policies.Given as goal

abbrev pub invariant-loop-policy : goal.invariant-loop-policy
invariant-loop-policy l = l.events.items ≡ l.fn.events.items ++ filter_map (policy_event l.now) (take l.policy-index l.policies)
