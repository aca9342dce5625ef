-- The policy list stays one: what a new policy and the removal of policies keep.
use Rattle.std.proofs.Common.{arith, ℕ, ◌≡◌, ◌+◌, ◌%◌, ◌<◌, ◌≤◌, Bool, true, false, not, List, length, get_or, sym, All}
use Rattle.std.proofs.lemmas.Bool.{both_ways}
use Rattle.std.proofs.lemmas.List.Edits.{length-insert}
use Rattle.std.proofs.lemmas.List.Elements.{All-weaker, All-filter}
use Rattle.std.proofs.lemmas.List.Kept.{AllPairs-filter}
use Rattle.std.proofs.lemmas.List.Sums.{prefix_len-le-length}
use Rattle.std.specs.List.{position_or_len}
use Rattle.std.specs.Prelude.{IsTrue}
use Rattle.xf_types.specs.declared.policy.Policy.{Policy}
use Rattle.xf_types.specs.declared.policy.PolicySpec.{PolicySpec}
use Rattle.xf_types.specs.Machine.{Shown}
use Rattle.xf_types.specs.Same.{dir_number}
use Rattle.xf_types.specs.PolicyList.{comes_after, inserted, is_same, without}
use Rattle.xf_types.specs.PolicyRules.{with_policy}
use Rattle.xf_types.specs.IsMachine.{IsPolicyList, IsStateList, IsInRange, IsShownPart}
use Rattle.xf_types.proofs.Decisions.{Decides-is_same}
use Rattle.xf_laws.proofs.ListLemmas.{All-insert, AllPairs-insert_any}
use Rattle.xf_laws.proofs.OrderLemmas.{ordered-inserted}

-- sameness can be asked either way
pub is_same-flip : (a b : PolicySpec) → is_same a b ≡ true → is_same b a ≡ true
is_same-flip a b e =
    let h = (Decides-is_same a b).0 e in
    (Decides-is_same b a).1
    (record { dir = sym h.dir; ptype = sym h.ptype; if_id = sym h.if_id; sel = sym h.sel; mark = sym h.mark })

-- the policies of the others, which the list had before
pub record AreOthers (s : Shown) (spec : PolicySpec) (index : ℕ) (others : List Policy) : Type 0 where
  pub list : IsPolicyList (record s { policies = others })
  pub unlike : All (λ q. is_same q.spec spec ≡ false) others
  pub free : All (λ q. q.index ≡ index → ⊥) others
  pub direction : index % 8 ≡ dir_number spec.dir
  pub room : length others < s.max_policies

-- the record of a new policy
abbrev new_policy : Shown → PolicySpec → ℕ → Policy
new_policy s spec index = record { number = s.next_number; index = index; added = s.time; soft = false; spec = spec }

-- with the others and a new policy the list is a policy list
pub list-with_policy : (s : Shown) (spec : PolicySpec) (index : ℕ) (others : List Policy) → AreOthers s spec index others
    → IsPolicyList (with_policy s spec index others)
list-with_policy s spec index others h =
    let p : Policy = new_policy s spec index in
    let test : Policy → Bool = λ q. comes_after q p in
    let place : ℕ = position_or_len test others in
    let within : place ≤ length others = prefix_len-le-length (λ q. not (test q)) others in
    record {
      ordered = ordered-inserted p others h.list.numbers_given h.list.ordered;
      keys =
          AllPairs-insert_any (λ (x y : Policy). IsTrue (is_same x.spec y.spec) → ⊥) others place p within h.list.keys
          (λ k d lt e. both_ways _ (h.unlike k d lt) e)
          (λ k d lt e. both_ways _ (h.unlike k d lt) (is_same-flip spec (get_or others k d).spec e));
      indices =
          AllPairs-insert_any (λ (x y : Policy). x.index ≡ y.index → ⊥) others place p within h.list.indices h.free
          (λ k d lt e. h.free k d lt (sym e));
      directions = All-insert (λ (x : Policy). x.index % 8 ≡ dir_number x.spec.dir) others place p h.list.directions h.direction;
      numbers =
          AllPairs-insert_any (λ (x y : Policy). x.number ≡ y.number → ⊥) others place p within h.list.numbers
          (λ k d lt e. (let less = h.list.numbers_given k d lt in omega arith))
          (λ k d lt e. (let less = h.list.numbers_given k d lt in omega arith));
      numbers_given =
          All-insert (λ (x : Policy). x.number < s.next_number + 1) others place p
          (All-weaker (λ (x : Policy). x.number < s.next_number) (λ (x : Policy). x.number < s.next_number + 1) (λ x lt. omega arith) others
          h.list.numbers_given)
          (omega arith);
    }

-- with the rest of what is shown
pub shown-with_policy : (s : Shown) (spec : PolicySpec) (index : ℕ) (others : List Policy) → AreOthers s spec index others
    → IsStateList s → length s.states ≤ s.max_states → s.max_policies ≤ 4096 → s.max_states ≤ 8192 → IsInRange s
    → IsShownPart (with_policy s spec index others)
shown-with_policy s spec index others h states fits policies_bound states_bound range =
    let p : Policy = new_policy s spec index in
    let test : Policy → Bool = λ q. comes_after q p in
    let within : position_or_len test others ≤ length others = prefix_len-le-length (λ q. not (test q)) others in
    let long : length (inserted p others) ≡ length others + 1 = length-insert others (position_or_len test others) p within in
    record {
      policies = list-with_policy s spec index others h;
      states = record { sids = states.sids; sids_given = states.sids_given };
      room =
          record {
            policies = omega (arith, h.room);
            states = fits;
            max_policies = policies_bound;
            max_states = states_bound;
          };
      range = record { index_counter = range.index_counter; seq_counter = range.seq_counter; thresholds = range.thresholds };
    }

-- those that are left are a policy list
pub list-without : (s : Shown) (test : Policy → Bool) → IsPolicyList s → IsPolicyList (record s { policies = without test s.policies })
list-without s test h =
    let stays : Policy → Bool = λ p. not (test p) in
    record {
      ordered = AllPairs-filter (λ (x y : Policy). IsTrue (comes_after y x)) stays s.policies h.ordered;
      keys = AllPairs-filter (λ (x y : Policy). IsTrue (is_same x.spec y.spec) → ⊥) stays s.policies h.keys;
      indices = AllPairs-filter (λ (x y : Policy). x.index ≡ y.index → ⊥) stays s.policies h.indices;
      directions = All-filter stays (λ (x : Policy). x.index % 8 ≡ dir_number x.spec.dir) s.policies h.directions;
      numbers = AllPairs-filter (λ (x y : Policy). x.number ≡ y.number → ⊥) stays s.policies h.numbers;
      numbers_given = All-filter stays (λ (x : Policy). x.number < s.next_number) s.policies h.numbers_given;
    }
