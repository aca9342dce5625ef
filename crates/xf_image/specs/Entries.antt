-- What the changes make of the slots and their policies.
use Rattle.std.specs.Prelude.{◌≡◌, ℕ, ◌+◌, ◌<◌, ◌==◌, Bool, false, cond, List, ◌∷◌, ◌++◌, map, insert, All}
use Rattle.std.specs.List.{position_or_len}
use Rattle.xf_types.specs.declared.policy.Policy.{Policy}
use Rattle.xf_types.specs.declared.policy.PolicySpec.{PolicySpec}
use Rattle.xf_types.specs.Machine.{Shown}
use Rattle.xf_types.specs.PolicyList.{IsPolicyOrder, comes_after, inserted, without}
use Rattle.xf_records.specs.Policies.{warned}

-- one more, at its place in the order
abbrev pub entries_with : ℕ → Policy → List (ℕ × Policy) → List (ℕ × Policy)
entries_with slot p entries = insert entries (position_or_len (λ e. comes_after e.1 p) entries) (slot, p)

-- those that don't pass a test
abbrev pub entries_without : (Policy → Bool) → List (ℕ × Policy) → List (ℕ × Policy)
entries_without test entries = without (λ e. test e.1) entries

-- all but the one in a slot
abbrev pub slot_left : ℕ → List (ℕ × Policy) → List (ℕ × Policy)
slot_left slot entries = without (λ e. e.0 == slot) entries

-- the one in a slot warned of
abbrev pub slot_warned : ℕ → List (ℕ × Policy) → List (ℕ × Policy)
slot_warned slot entries = map (λ e. cond (e.0 == slot) (e.0, warned e.1) e) entries

-- the policy stands in the slot, between others
pub record IsEntry (entries : List (ℕ × Policy)) (slot : ℕ) (p : Policy) : Type 0 where
  pub front : List (ℕ × Policy)
  pub behind : List (ℕ × Policy)
  pub whole : entries ≡ front ++ ((slot, p) ∷ behind)

-- the record of a policy that is listed now
abbrev pub new_policy : Shown → PolicySpec → ℕ → Policy
new_policy s spec index = record { number = s.next_number; index = index; added = s.time; soft = false; spec = spec }

-- what is shown with these policies in place of the others
abbrev pub with_policies : Shown → List Policy → Shown
with_policies s policies = record s { policies = policies }

-- what is shown once this policy is listed, with the next number, and this index counter
abbrev pub with_listed : Shown → Policy → ℕ → Shown
with_listed s p next_index =
    record s { policies = inserted p s.policies; next_number = s.next_number + 1; next_index = next_index }

-- what is shown under other thresholds
abbrev pub with_thresholds : Shown → ℕ × ℕ → ℕ × ℕ → Shown
with_thresholds s h4 h6 = record s { hthresh4 = h4; hthresh6 = h6 }

-- the list is in its order, and each number was given
pub record InOrder (s : Shown) : Type 0 where
  pub ordered : IsPolicyOrder s.policies
  pub numbers_given : All (λ p. p.number < s.next_number) s.policies

-- two machines show the same of what the policies' words stand for
pub record AlikeInPolicies (s t : Shown) : Type 0 where
  pub policies : t.policies ≡ s.policies
  pub next_index : t.next_index ≡ s.next_index
  pub next_number : t.next_number ≡ s.next_number
  pub hthresh4 : t.hthresh4 ≡ s.hthresh4
  pub hthresh6 : t.hthresh6 ≡ s.hthresh6
  pub room : t.max_policies ≡ s.max_policies
