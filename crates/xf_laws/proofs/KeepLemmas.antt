-- What each answer keeps of what holds of every machine.
use Rattle.std.proofs.Common.{arith, ℕ, ◌≡◌, ◌+◌, ◌*◌, ◌%◌, ◌<◌, ◌≤◌, Bool, true, false, not, ◌==◌, ◌&&◌, length, get_or, refl, subst, cond, Option, None, Some, All, eqb-true, lit≤, lit<, inl, inr}
use Rattle.std.proofs.lemmas.Bool.{both_ways, and_cases, and_parts, not-false, not-true, leb-false, eq-eqb}
use Rattle.std.proofs.lemmas.List.Elements.{All-nil}
use Rattle.std.proofs.lemmas.Option.{same_Some}
use Rattle.std.specs.Option.{ForSome}
use Rattle.std.specs.Prelude.{IsTrue, nat_le}
use Rattle.xf_types.specs.declared.network.Dir.{Dir}
use Rattle.xf_types.specs.declared.policy.Policy.{Policy}
use Rattle.xf_types.specs.declared.policy.PolicySpec.{PolicySpec}
use Rattle.xf_types.specs.declared.state.Sa.{Sa}
use Rattle.xf_types.specs.declared.call.Reply.{Reply}
use Rattle.xf_types.specs.declared.call.Reply.TheVariants.{DoneIndex, Full, Invalid, PolicyExists}
use Rattle.xf_types.specs.Machine.{Machine, Shown}
use Rattle.xf_types.specs.Same.{dir_number}
use Rattle.xf_types.specs.Counters.{next_in}
use Rattle.xf_types.specs.Changes.{Answer, stays, answer, InPlace, machine_after}
use Rattle.xf_types.specs.PolicyList.{comes_after, is_same, has_index}
use Rattle.xf_types.specs.PolicyRules as p
use Rattle.xf_types.specs.Steps.{empty}
use Rattle.xf_types.specs.IsMachine.{IsPolicyList, IsInRange, IsShownPart, IsMachine}
use Rattle.std.specs.List.{AllZip}
use Rattle.xf_types.specs.Machine.{Own}
use Rattle.xf_laws.proofs.Lasting.{Lasts, HoldsBy}
use Rattle.xf_laws.proofs.CounterLemmas.{next_in-in}
use Rattle.xf_laws.proofs.FreeLemmas.{index-free, free_number-in, dir_number-small}
use Rattle.xf_laws.proofs.ListLemmas.{AllPairs-nil, find-none, none-passes}
use Rattle.xf_laws.proofs.PolicyKeepLemmas.{shown-with_policy}

-- what holds of a value holds of what there is in its `Some`
pub for-some : {X : Type 0} (P : X → Type 0) (y : X) → P y → ForSome (Some y) P
for-some P y p x e = subst P (same_Some y x e) p

-- with capacities in their bounds the empty machine is one
pub empty-is : (max_policies max_states : ℕ) → max_policies ≤ 4096 → max_states ≤ 8192 → IsMachine (empty max_policies max_states)
empty-is max_policies max_states few less =
    record {
      shown =
          record {
            policies =
                record {
                  ordered = AllPairs-nil (λ (x y : Policy). IsTrue (comes_after y x));
                  keys = AllPairs-nil (λ (x y : Policy). IsTrue (is_same x.spec y.spec) → ⊥);
                  indices = AllPairs-nil (λ (x y : Policy). x.index ≡ y.index → ⊥);
                  directions = All-nil (λ (x : Policy). x.index % 8 ≡ dir_number x.spec.dir);
                  numbers = AllPairs-nil (λ (x y : Policy). x.number ≡ y.number → ⊥);
                  numbers_given = All-nil (λ (x : Policy). x.number < 1);
                };
            states =
                record {
                  sids = AllPairs-nil (λ (x y : Sa). x.sid ≡ y.sid → ⊥);
                  sids_given = All-nil (λ (x : Sa). x.sid < 1);
                };
            room = record { policies = omega arith; states = omega arith; max_policies = few; max_states = less };
            range =
                record {
                  index_counter = (lit< tt, lit≤ tt);
                  seq_counter = (lit< tt, lit≤ tt);
                  thresholds = record {
                    local4 = for-some (λ (lens : ℕ × ℕ). lens.0 ≤ 32) (32, 32) (lit≤ tt);
                    remote4 = for-some (λ (lens : ℕ × ℕ). lens.1 ≤ 32) (32, 32) (lit≤ tt);
                    local6 = for-some (λ (lens : ℕ × ℕ). lens.0 ≤ 128) (128, 128) (lit≤ tt);
                    remote6 = for-some (λ (lens : ℕ × ℕ). lens.1 ≤ 128) (128, 128) (lit≤ tt);
                  };
                };
          };
      own = tt;
    }

-- the given index of a new policy is of its direction
given-direction : (spec : PolicySpec) → (not (spec.index == 0)) ≡ true → p.is_bad_index spec ≡ false
    → spec.index % 8 ≡ dir_number spec.dir
given-direction spec given fine =
    elim (and_cases (not (spec.index == 0)) (not (p.is_index_of spec.dir spec.index)) fine) [
      | inl zero_index ↦ absurd (both_ways (not (spec.index == 0)) zero_index given)
      | inr right ↦ eqb-true (spec.index % 8) (dir_number spec.dir) (not-false (p.is_index_of spec.dir spec.index) right)
    ]

-- an index that isn't taken is that of no listed policy
not-taken : (s : Shown) (index : ℕ) → p.is_index_taken s index ≡ false → All (λ (q : Policy). q.index ≡ index → ⊥) s.policies
not-taken s index e k d lt same =
    both_ways ((get_or s.policies k d).index == index) (none-passes (has_index index) s.policies e k d lt)
    (eq-eqb (get_or s.policies k d).index index same)

-- a fresh index is of its direction
index-direction : (k : ℕ) (dir : Dir) → (8 * k + dir_number dir) % 8 ≡ dir_number dir
index-direction k dir = omega (arith, dir_number-small dir)

-- another index counter
list-counted : (s : Shown) (next : ℕ) → IsPolicyList s → IsPolicyList (record s { next_index = next })
list-counted s next h =
    record {
      ordered = h.ordered;
      keys = h.keys;
      indices = h.indices;
      directions = h.directions;
      numbers = h.numbers;
      numbers_given = h.numbers_given;
    }

-- with a counter in its range
range-counted : (s : Shown) (next : ℕ) → (0 < next) × (next ≤ p.last_index) → IsInRange s → IsInRange (record s { next_index = next })
range-counted s next inside h = record { index_counter = inside; seq_counter = h.seq_counter; thresholds = h.thresholds }

-- for a fact that lasts
module _ (R : Sa → Own → Type 0) where
  -- the machine after an answer is one, and the fact holds
  pub record Kept (m : Machine) (a : Answer) : Type 0 where
    pub after : HoldsBy R (machine_after m a.change)

  -- nothing changes
  pub stayed : (m : Machine) (r : Reply) → Lasts R m → Kept m (stays r)
  stayed m r h = record { after = record { shown = h.shown; own = h.own } }

  -- by a test
  pub either : (m : Machine) (b : Bool) (x y : Answer) → (b ≡ true → Kept m x) → (b ≡ false → Kept m y) → Kept m (cond b x y)
  either m true x y h k = h refl
  either m false x y h k = k refl

  -- each state stays at its place, and so do the own parts
  pub placed : (m : Machine) (r : Reply) (s : Shown) → IsShownPart s → AllZip R s.states m.own → Kept m (answer r (InPlace s))
  placed m r s shown own = record { after = record { shown = shown; own = own } }

  -- where there is room a new policy is listed
  pub policy_room-kept : (m : Machine) (spec : PolicySpec) → Lasts R m → p.is_bad_index spec ≡ false
      → All (λ (q : Policy). is_same q.spec spec ≡ false) m.shown.policies → Kept m (p.policy_added_if_room m.shown spec)
  policy_room-kept m spec h fine unlike =
      let s = m.shown in
      either m (nat_le s.max_policies (length s.policies)) (p.full_of_policies s) (p.added_with_index s spec)
      (λ full. stayed m (Full (length s.policies) 0) h)
      (λ room.
      let less : length s.policies < s.max_policies = leb-false s.max_policies (length s.policies) room in
      let k = p.free_number s spec.dir in
      let index = 8 * k + dir_number spec.dir in
      let inside = free_number-in s spec.dir h.shown in
      let fresh : Shown = record s { next_index = next_in p.last_index k } in
      either m (not (spec.index == 0) && not (p.is_index_taken s spec.index))
      (answer (DoneIndex spec.index) (InPlace (p.with_policy s spec spec.index s.policies)))
      (answer (DoneIndex index) (InPlace (p.with_policy fresh spec index s.policies)))
      (λ given.
      let parts = and_parts (not (spec.index == 0)) (not (p.is_index_taken s spec.index)) given in
      placed m (DoneIndex spec.index) (p.with_policy s spec spec.index s.policies)
      (shown-with_policy s spec spec.index s.policies
      (record {
        list = h.shown.policies;
        unlike = unlike;
        free = not-taken s spec.index (not-true (p.is_index_taken s spec.index) parts.1);
        direction = given-direction spec parts.0 fine;
        room = less;
      })
      h.shown.states h.shown.room.states h.shown.room.max_policies h.shown.room.max_states h.shown.range)
      h.own)
      (λ wants.
      placed m (DoneIndex index) (p.with_policy fresh spec index s.policies)
      (shown-with_policy fresh spec index s.policies
      (record {
        list = list-counted s (next_in p.last_index k) h.shown.policies;
        unlike = unlike;
        free = not-taken s index (index-free s spec.dir h.shown);
        direction = index-direction k spec.dir;
        room = less;
      })
      (record { sids = h.shown.states.sids; sids_given = h.shown.states.sids_given }) h.shown.room.states h.shown.room.max_policies
      h.shown.room.max_states (range-counted s (next_in p.last_index k) (next_in-in p.last_index k inside.0 inside.1) h.shown.range))
      h.own))

  -- where no policy is the same
  policy_unless-kept : (m : Machine) (spec : PolicySpec) → Lasts R m → p.is_bad_index spec ≡ false → (o : Option Policy)
      → p.policy_same_as m.shown spec ≡ o → Kept m (p.policy_added_unless_found m.shown spec o)
  policy_unless-kept m spec h fine None e =
      policy_room-kept m spec h fine (find-none (λ (q : Policy). is_same q.spec spec) m.shown.policies e)
  policy_unless-kept m spec h fine (Some old) e = stayed m (PolicyExists old.index) h

  -- a policy is added
  pub policy_add-kept : (m : Machine) (spec : PolicySpec) → Lasts R m → Kept m (p.policy_add m.shown spec)
  policy_add-kept m spec h =
      either m (p.is_bad_index spec) (stays Invalid) (p.policy_added_unless_found m.shown spec (p.policy_same_as m.shown spec))
      (λ bad. stayed m Invalid h)
      (λ fine. policy_unless-kept m spec h fine (p.policy_same_as m.shown spec) refl)
