-- Laws of the policies that come and go: an update takes one policy away and no other, and a given index or a fresh one is no other's.
use Rattle.std.specs.Prelude.{◌≡◌, ℕ, false, List, ◌∷◌, ◌++◌, Some}
use Rattle.xf_types.specs.declared.policy.Policy.{Policy}
use Rattle.xf_types.specs.declared.policy.PolicySpec.{PolicySpec}
use Rattle.xf_types.specs.declared.call.Reply.TheVariants.{DoneIndex}
use Rattle.xf_types.specs.Machine.{Shown}
use Rattle.xf_types.specs.Changes.{InPlace, answer}
use Rattle.xf_types.specs.PolicyRules.{is_bad_index, is_index_taken, policy_add, policy_same_as, policy_update, with_policy}
use Rattle.xf_types.specs.IsMachine.{IsShownPart}

-- the rest is the list as it is, but for this one element
pub record IsOneLess {X : Type 0} (x : X) (xs rest : List X) : Type 0 where
  pub front : List X
  pub back : List X
  pub whole : front ++ x ∷ back ≡ xs
  pub left : front ++ back ≡ rest

-- an update takes a policy away, and the new one goes among the others with its index
pub record Replaces (s : Shown) (spec : PolicySpec) (old : Policy) : Type 0 where
  pub others : List Policy
  pub one_less : IsOneLess old s.policies others
  pub answer : policy_update s spec ≡ answer (DoneIndex old.index) (InPlace (with_policy s spec old.index others))

pub record UpdateLaws : Type 0 where
  -- an update of a listed policy removes exactly that one
  pub one : (s : Shown) (spec : PolicySpec) (old : Policy) → IsShownPart s → is_bad_index spec ≡ false
      → policy_same_as s spec ≡ Some old → Replaces s spec old
  -- the index of a policy that is added, given or fresh, was no listed policy's
  pub index_free : (s : Shown) (spec : PolicySpec) (index : ℕ) → IsShownPart s
      → (policy_add s spec).reply ≡ DoneIndex index → is_index_taken s index ≡ false
