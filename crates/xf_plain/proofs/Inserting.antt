-- What holds of a policy list after a policy went to its place.
use Rattle.std.proofs.Common.{arith, ◌≡◌, ℕ, ◌+◌, ◌<◌, List, [], ◌∷◌, length, take, drop, insert, All, suc, Bool, true, false, cond, not, ap, refl, ◌≤◌}
use Rattle.std.specs.List.{position_or_len}
use Rattle.std.proofs.lemmas.List.Edits.{length-insert}
use Rattle.std.specs.Prelude.{find, is_some, Some}
use Rattle.std.proofs.lemmas.List.Elements.{All-nil, All-head, All-tail, All-append, All-take, All-drop, All-cons}
use Rattle.xf_types.specs.declared.policy.Policy.{Policy}
use Rattle.xf_types.specs.PolicyList.{without, inserted, comes_after}
use Rattle.xf_plain.specs.Kept.{IsKept}
use Rattle.xf_plain.proofs.Places.{position_or_len-le}

-- the list is longer by one
pub length-inserted : (p : Policy) (policies : List Policy) → length (inserted p policies) ≡ length policies + 1
length-inserted p policies =
    length-insert policies (position_or_len (λ q. comes_after q p) policies) p (position_or_len-le (λ q. comes_after q p) policies)

All-insert : {X : Type 0} (P : X → Type 0) (xs : List X) (i : ℕ) (x : X) → All P xs → P x → All P (insert xs i x)
All-insert P xs i x h p =
    All-append P (take i xs) (x ∷ drop i xs) (All-take P i xs h) (All-cons P x (drop i xs) p (All-drop P i xs h))

-- what holds of each policy and of the new one holds of each afterwards
pub All-inserted : (P : Policy → Type 0) (p : Policy) (policies : List Policy) → All P policies → P p → All P (inserted p policies)
All-inserted P p policies h k = All-insert P policies (position_or_len (λ q. comes_after q p) policies) p h k

-- a machine with room keeps what it keeps when a policy without templates goes to its place
pub IsKept-inserted : (p : Policy) (old new : List Policy) (next_index max_policies : ℕ) → IsKept old next_index max_policies
    → length old < max_policies → new ≡ inserted p old → IsKept new next_index max_policies
IsKept-inserted p old new next_index max_policies kept room e = record {
  index_low = kept.index_low;
  index_high = kept.index_high;
  room = rw (e, length-inserted p old) (omega (arith, room));
  few = kept.few;
}

-- ---- policies that leave

-- no list is longer without some
pub length-without : {X : Type 0} (test : X → Bool) (xs : List X) → length (without test xs) ≤ length xs
length-without test [] = omega arith
length-without test (x ∷ xs) =
    elim (test x) as (λ b. length (cond (not b) (x ∷ without test xs) (without test xs)) ≤ suc (length xs))
    [ true ↦ omega (arith, length-without test xs) | false ↦ omega (arith, length-without test xs) ]

-- where one is found one at least leaves
length-without_found : (test : Policy → Bool) (policies : List Policy) → is_some (find test policies) ≡ true
    → length (without test policies) + 1 ≤ length policies
length-without_found test [] = λ h. absurd cc
length-without_found test (p ∷ ps) =
    elim (test p)
    as (λ b. is_some (cond b (Some p) (find test ps)) ≡ true → length (cond (not b) (p ∷ without test ps) (without test ps)) + 1 ≤ suc (length ps)) [
      | true ↦ (λ h. omega (arith, length-without test ps))
      | false ↦ (λ h. omega (arith, length-without_found test ps h))
    ]

-- what holds of each holds of those that stay
All-without : (P : Policy → Type 0) (test : Policy → Bool) (policies : List Policy) → All P policies → All P (without test policies)
All-without P test [] h = All-nil P
All-without P test (p ∷ ps) h =
    let rest = All-without P test ps (All-tail P p ps h) in
    elim (test p) as (λ b. All P (cond (not b) (p ∷ without test ps) (without test ps)))
    [ true ↦ rest | false ↦ All-cons P p (without test ps) (All-head P p ps h) rest ]

-- a machine keeps what it keeps when policies leave
pub IsKept-without : (test : Policy → Bool) (old new : List Policy) (next_index max_policies : ℕ)
    → IsKept old next_index max_policies → new ≡ without test old → IsKept new next_index max_policies
IsKept-without test old new next_index max_policies kept e = record {
  index_low = kept.index_low;
  index_high = kept.index_high;
  room = omega (arith, kept.room, ap (length {A = Policy}) e, length-without test old);
  few = kept.few;
}

-- and when a policy takes the place of one that is found
pub IsKept-replaced : (test : Policy → Bool) (p : Policy) (old new : List Policy) (next_index max_policies : ℕ)
    → IsKept old next_index max_policies → is_some (find test old) ≡ true
    → new ≡ inserted p (without test old) → IsKept new next_index max_policies
IsKept-replaced test p old new next_index max_policies kept found e =
    IsKept-inserted p (without test old) new next_index max_policies
    (IsKept-without test old (without test old) next_index max_policies kept refl)
    (omega (arith, kept.room, length-without_found test old found)) e
