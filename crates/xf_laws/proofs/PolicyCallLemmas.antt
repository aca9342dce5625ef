-- What the calls on policies keep of what holds of every machine.
use Rattle.std.proofs.Common.{arith, ℕ, ◌≡◌, ◌%◌, ◌≤◌, Bool, true, false, not, refl, ap, sym, ◌∙◌, Option, None, Some, find, unwrap_or}
use Rattle.std.proofs.lemmas.Bool.{not-true}
use Rattle.std.proofs.lemmas.List.Elements.{All-weaker, filter_passes}
use Rattle.std.specs.Option.{ForSome}
use Rattle.xf_types.specs.declared.policy.Policy.{Policy}
use Rattle.xf_types.specs.declared.policy.PolicyKey.{PolicyKey}
use Rattle.xf_types.specs.declared.policy.PolicySpec.{PolicySpec}
use Rattle.xf_types.specs.declared.policy.Thresholds.{Thresholds}
use Rattle.xf_types.specs.declared.call.Reply.{Reply}
use Rattle.xf_types.specs.declared.call.Reply.TheVariants.{Done, DoneIndex, Invalid, NoEntry, PolicyShown}
use Rattle.xf_types.specs.declared.state.Sa.{Sa}
use Rattle.xf_types.specs.Machine.{Machine, Shown, Own}
use Rattle.xf_types.specs.Same.{dir_number}
use Rattle.xf_types.specs.Changes.{stays, answer, InPlace}
use Rattle.xf_types.specs.PolicyList.{is_same, has_key, without}
use Rattle.xf_types.specs.PolicyRules as p
use Rattle.xf_types.specs.IsMachine.{IsShownPart}
use Rattle.xf_types.proofs.Decisions.{Decides-is_same}
use Rattle.xf_laws.proofs.ListLemmas.{find-none, found-passes, All-found, left-apart, left-le, fewer-left}
use Rattle.xf_laws.proofs.PolicyKeepLemmas.{AreOthers, shown-with_policy, list-without}
use Rattle.xf_laws.proofs.Lasting.{Lasts}
use Rattle.xf_laws.proofs.KeepLemmas.{Kept, stayed, either, placed, policy_room-kept, for-some}

-- what is shown with some of the policies left
pub shown-without_policies : (s : Shown) (test : Policy → Bool) → IsShownPart s
    → IsShownPart (record s { policies = without test s.policies })
shown-without_policies s test h =
    record {
      policies = list-without s test h.policies;
      states = record { sids = h.states.sids; sids_given = h.states.sids_given };
      room =
          record {
            policies = (let less = left-le test s.policies in let fits = h.room.policies in omega arith);
            states = h.room.states;
            max_policies = h.room.max_policies;
            max_states = h.room.max_states;
          };
      range =
          record { index_counter = h.range.index_counter; seq_counter = h.range.seq_counter; thresholds = h.range.thresholds };
    }

-- the same policy leaves, and the new one takes its index
replaced : (s : Shown) (spec : PolicySpec) (old : Policy) → IsShownPart s → p.policy_same_as s spec ≡ Some old
    → AreOthers s spec old.index (without (λ q. is_same q.spec spec) s.policies)
replaced s spec old h e =
    let test : Policy → Bool = λ q. is_same q.spec spec in
    let same = (Decides-is_same old.spec spec).0 (found-passes test s.policies old e) in
    let own_direction : old.index % 8 ≡ dir_number old.spec.dir =
    All-found (λ (q : Policy). q.index % 8 ≡ dir_number q.spec.dir) test s.policies old e h.policies.directions in
    record {
      list = list-without s test h.policies;
      unlike =
          All-weaker (λ (q : Policy). not (test q) ≡ true) (λ (q : Policy). test q ≡ false) (λ q passes. not-true (test q) passes)
          (without test s.policies) (filter_passes (λ q. not (test q)) s.policies);
      free =
          All-weaker (λ (q : Policy). old.index ≡ q.index → ⊥) (λ (q : Policy). q.index ≡ old.index → ⊥) (λ q apart is. apart (sym is))
          (without test s.policies)
          (left-apart (λ (x y : Policy). x.index ≡ y.index → ⊥) (λ x y apart is. apart (sym is)) test s.policies old e h.policies.indices);
      direction = own_direction ∙ ap dir_number same.dir;
      room = (let less = fewer-left test s.policies old e in let fits = h.room.policies in omega arith);
    }

-- a value that is given, or else the old one
for-some-or : {X : Type 0} (P : X → Type 0) (o : Option X) (d : X) → ForSome o P → P d → ForSome (Some (unwrap_or o d)) P
for-some-or P None d given old = for-some P d old
for-some-or P (Some x) d given old = for-some P x (given x refl)

-- what there is in a `Some`
of-some : {X : Type 0} (P : X → Type 0) (x : X) → ForSome (Some x) P → P x
of-some P x h = h x refl

-- for a fact that lasts
module _ (R : Sa → Own → Type 0) where
  -- policies leave
  pub policies_left-kept : (m : Machine) (r : Reply) (test : Policy → Bool) → Lasts R m
      → Kept R m (answer r (InPlace (record m.shown { policies = without test m.shown.policies })))
  policies_left-kept m r test h = placed R m r (record m.shown { policies = without test m.shown.policies }) (shown-without_policies m.shown test h.shown) h.own

  -- a policy takes the place of the same, or is added
  policy_update_or_add-kept : (m : Machine) (spec : PolicySpec) → Lasts R m → p.is_bad_index spec ≡ false → (o : Option Policy)
      → p.policy_same_as m.shown spec ≡ o → Kept R m (p.policy_replaced_or_added m.shown spec o)
  policy_update_or_add-kept m spec h fine None e =
      policy_room-kept R m spec h fine (find-none (λ (q : Policy). is_same q.spec spec) m.shown.policies e)
  policy_update_or_add-kept m spec h fine (Some old) e =
      let others = without (λ (q : Policy). is_same q.spec spec) m.shown.policies in
      placed R m (DoneIndex old.index) (p.with_policy m.shown spec old.index others)
      (shown-with_policy m.shown spec old.index others (replaced m.shown spec old h.shown e) h.shown.states h.shown.room.states
      h.shown.room.max_policies h.shown.room.max_states h.shown.range)
      h.own

  -- a policy is updated
  pub policy_update-kept : (m : Machine) (spec : PolicySpec) → Lasts R m → Kept R m (p.policy_update m.shown spec)
  policy_update-kept m spec h =
      either R m (p.is_bad_index spec) (stays Invalid) (p.policy_replaced_or_added m.shown spec (p.policy_same_as m.shown spec))
      (λ bad. stayed R m Invalid h)
      (λ fine. policy_update_or_add-kept m spec h fine (p.policy_same_as m.shown spec) refl)

  -- the policy that was found leaves
  policy_deleted-kept : (m : Machine) (key : PolicyKey) → Lasts R m → (o : Option Policy) → Kept R m (p.policy_deleted m.shown key o)
  policy_deleted-kept m key h None = stayed R m NoEntry h
  policy_deleted-kept m key h (Some old) = policies_left-kept m (DoneIndex old.index) (has_key key) h

  -- a policy is deleted
  pub policy_delete-kept : (m : Machine) (key : PolicyKey) → Lasts R m → Kept R m (p.policy_delete m.shown key)
  policy_delete-kept m key h =
      either R m (p.is_bad_key key) (stays Invalid) (p.policy_deleted m.shown key (find (has_key key) m.shown.policies))
      (λ bad. stayed R m Invalid h)
      (λ fine. policy_deleted-kept m key h (find (has_key key) m.shown.policies))

  -- the policy that was found is shown
  policy_shown-kept : (m : Machine) → Lasts R m → (o : Option Policy) → Kept R m (p.policy_shown o)
  policy_shown-kept m h None = stayed R m NoEntry h
  policy_shown-kept m h (Some found) = stayed R m (PolicyShown found) h

  -- a policy is looked for
  pub policy_get-kept : (m : Machine) (key : PolicyKey) → Lasts R m → Kept R m (p.policy_get m.shown key)
  policy_get-kept m key h =
      either R m (p.is_bad_key key) (stays Invalid) (p.policy_shown (find (has_key key) m.shown.policies))
      (λ bad. stayed R m Invalid h)
      (λ fine. policy_shown-kept m h (find (has_key key) m.shown.policies))

  -- thresholds are set
  pub policy_set-kept : (m : Machine) (set : Thresholds) → Lasts R m → Kept R m (p.policy_set m.shown set)
  policy_set-kept m set h =
      let s = m.shown in
      let new : Shown = record s { hthresh4 = unwrap_or set.v4 s.hthresh4; hthresh6 = unwrap_or set.v6 s.hthresh6 } in
      let old = h.shown.range.thresholds in
      let P : (ℕ × ℕ → ℕ) → ℕ → ℕ × ℕ → Type 0 = λ part greatest lens. part lens ≤ greatest in
      placed R m Done new
      (record {
        policies =
            record {
              ordered = h.shown.policies.ordered;
              keys = h.shown.policies.keys;
              indices = h.shown.policies.indices;
              directions = h.shown.policies.directions;
              numbers = h.shown.policies.numbers;
              numbers_given = h.shown.policies.numbers_given;
            };
        states = record { sids = h.shown.states.sids; sids_given = h.shown.states.sids_given };
        room =
            record {
              policies = h.shown.room.policies;
              states = h.shown.room.states;
              max_policies = h.shown.room.max_policies;
              max_states = h.shown.room.max_states;
            };
        range =
            record {
              index_counter = h.shown.range.index_counter;
              seq_counter = h.shown.range.seq_counter;
              thresholds =
                  record {
                    local4 = for-some-or (P (λ x. x.0) 32) set.v4 s.hthresh4 set.facts.local4 (of-some (P (λ x. x.0) 32) s.hthresh4 old.local4);
                    remote4 = for-some-or (P (λ x. x.1) 32) set.v4 s.hthresh4 set.facts.remote4 (of-some (P (λ x. x.1) 32) s.hthresh4 old.remote4);
                    local6 = for-some-or (P (λ x. x.0) 128) set.v6 s.hthresh6 set.facts.local6 (of-some (P (λ x. x.0) 128) s.hthresh6 old.local6);
                    remote6 = for-some-or (P (λ x. x.1) 128) set.v6 s.hthresh6 set.facts.remote6 (of-some (P (λ x. x.1) 128) s.hthresh6 old.remote6);
                  };
            };
      })
      h.own
