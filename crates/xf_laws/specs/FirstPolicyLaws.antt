-- Laws of the first policy of a flow (RFC 4301, 4.4.1): it applies, none before it does, and none of ptype sub where it is of ptype main.
use Rattle.std.specs.Prelude.{◌≡◌, true, false, List, ◌∷◌, ◌++◌, None, Some, All}
use Rattle.xf_types.specs.declared.network.Flow.{Flow}
use Rattle.xf_types.specs.declared.network.Ptype.{Ptype}
use Rattle.xf_types.specs.declared.network.Ptype.TheVariants.{Main, Sub}
use Rattle.xf_types.specs.declared.policy.Policy.{Policy}
use Rattle.xf_types.specs.PolicyList.{applies, first_policy}

-- none of the policies applies as one of this ptype
abbrev pub NoneApplies : Ptype → Flow → List Policy → Type 0
NoneApplies ptype flow policies = All (λ q. applies ptype flow q ≡ false) policies

-- the policy stands in the list and applies, and none before it of its ptype does
pub record IsFirst (policies : List Policy) (flow : Flow) (p : Policy) : Type 0 where
  pub before : List Policy
  pub after : List Policy
  pub place : policies ≡ before ++ p ∷ after
  pub applies : applies p.spec.ptype flow p ≡ true
  pub none_before : NoneApplies p.spec.ptype flow before
  pub no_sub : p.spec.ptype ≡ Main → NoneApplies Sub flow policies

pub record FirstPolicyLaws : Type 0 where
  pub some : (policies : List Policy) (flow : Flow) (p : Policy) → first_policy policies flow ≡ Some p
      → IsFirst policies flow p
  pub none : (policies : List Policy) (flow : Flow) → first_policy policies flow ≡ None → (ptype : Ptype)
      → NoneApplies ptype flow policies
  -- no other policy is so
  pub one : (policies : List Policy) (flow : Flow) (p : Policy) → IsFirst policies flow p
      → first_policy policies flow ≡ Some p
