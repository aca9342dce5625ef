-- What a walk that changes the list does to each policy.
use Rattle.std.specs.Prelude.{ℕ, Bool, true, false, List, [], ◌∷◌, ◌++◌, map, is_some}
use Rattle.xf_types.specs.declared.policy.Policy.{Policy}
use Rattle.xf_types.specs.PolicyList.{policy_meets, without}
use Rattle.xf_types.specs.Same.{meets_one, same_ptype}
use Rattle.xf_types.specs.TickRules.{policy_ends, policy_warns, policy_event, soft_if}
use Rattle.xf_records.specs.Policies.{warned}
use Rattle.xf_policies.specs.declared.sweep.Sweep.{Sweep}
use Rattle.xf_policies.specs.declared.sweep.Sweep.TheVariants.{Admitted, OfPtype, Later}
use Rattle.xf_policies.specs.declared.sweep.Fate.{Fate}
use Rattle.xf_policies.specs.declared.sweep.Fate.TheVariants.{Stays, Warned, Gone}

-- the policy leaves
abbrev pub leaves : Sweep → Policy → Bool
leaves (Admitted f) p = policy_meets f p
leaves (OfPtype ptype) p = meets_one same_ptype ptype p.spec.ptype
leaves (Later now) p = policy_ends now p

-- it stays, and is warned of
abbrev pub warns : Sweep → Policy → Bool
warns (Admitted f) p = false
warns (OfPtype ptype) p = false
warns (Later now) p = policy_warns now p

-- it leaves or is warned of
abbrev pub changes : Sweep → Policy → Bool
changes (Admitted f) p = policy_meets f p
changes (OfPtype ptype) p = meets_one same_ptype ptype p.spec.ptype
changes (Later now) p = is_some (policy_event now p)

-- by these two
abbrev pub fate_by : Bool → Bool → Fate
fate_by true w = Gone
fate_by false true = Warned
fate_by false false = Stays

-- what becomes of it
abbrev pub fate_of : Sweep → Policy → Fate
fate_of what p = fate_by (leaves what p) (warns what p)

-- how many changes this is
abbrev pub changes_of : Fate → ℕ
changes_of Stays = 0
changes_of Warned = 1
changes_of Gone = 1

-- what stands in its slot then
abbrev pub left_of : Fate → ℕ → Policy → List (ℕ × Policy)
left_of Stays slot p = (slot, p) ∷ []
left_of Warned slot p = (slot, warned p) ∷ []
left_of Gone slot p = []

-- the entries afterwards
abbrev pub entries_swept : Sweep → List (ℕ × Policy) → List (ℕ × Policy)
entries_swept what [] = []
entries_swept what (e ∷ es) = left_of (fate_of what e.1) e.0 e.1 ++ entries_swept what es

-- the list afterwards
abbrev pub swept : Sweep → List Policy → List Policy
swept what ps = map (λ p. soft_if (warns what p) p) (without (leaves what) ps)
