-- Which policies leave at once.
use Rattle.std.specs.Prelude.{Bool}
use Rattle.xf_types.specs.declared.call.Call.{Call}
use Rattle.xf_types.specs.declared.call.Call.TheVariants.{PolicyDeleteAll, PolicyFlush}
use Rattle.xf_types.specs.declared.policy.Policy.{Policy}
use Rattle.xf_types.specs.PolicyList.{policy_meets}
use Rattle.xf_types.specs.Same.{meets_one, same_ptype}
use Rattle.xf_beside.specs.declared.leaving.Leaving.{Leaving}
use Rattle.xf_beside.specs.declared.leaving.Leaving.TheVariants.{Admitted, OfPtype}

-- this policy leaves
abbrev pub leaves : Leaving → Policy → Bool
leaves (Admitted f) p = policy_meets f p
leaves (OfPtype ptype) p = meets_one same_ptype ptype p.spec.ptype

-- the call that has them leave
abbrev pub call_of : Leaving → Call
call_of (Admitted f) = PolicyDeleteAll f
call_of (OfPtype ptype) = PolicyFlush ptype
