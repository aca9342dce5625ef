-- What each answer leaves of capacities, time and the numbers that are given.
use Rattle.std.proofs.Common.{arith, ℕ, ◌≡◌, ◌+◌, ◌≤◌, max, Bool, true, false, not, ◌&&◌, ◌==◌, List, [], ◌∷◌, length, refl, ap, sym, subst, cond, Option, None, Some, find}
use Rattle.std.specs.Prelude.{nat_le, nat_lt}
use Rattle.xf_types.specs.declared.network.Addr.{Addr}
use Rattle.xf_types.specs.declared.network.Flow.{Flow}
use Rattle.xf_types.specs.declared.policy.Action.{Action}
use Rattle.xf_types.specs.declared.policy.Action.TheVariants.{Allow, Block}
use Rattle.xf_types.specs.declared.policy.Policy.{Policy}
use Rattle.xf_types.specs.declared.policy.PolicyKey.{PolicyKey}
use Rattle.xf_types.specs.declared.policy.PolicySpec.{PolicySpec}
use Rattle.xf_types.specs.declared.policy.Template.{Template}
use Rattle.xf_types.specs.declared.state.AllocSpec.{AllocSpec}
use Rattle.xf_types.specs.declared.state.Sa.{Sa}
use Rattle.xf_types.specs.declared.state.SaSpec.{SaSpec}
use Rattle.xf_types.specs.declared.call.Call.{Call}
use Rattle.xf_types.specs.declared.call.Call.TheVariants as call
use Rattle.xf_types.specs.declared.call.Reply.{Reply}
use Rattle.xf_types.specs.Machine.{Machine, Shown, Own}
use Rattle.xf_types.specs.declared.call.Reply.TheVariants as reply
use Rattle.xf_types.specs.declared.call.Reply.TheVariants.{Wanting}
use Rattle.xf_types.specs.Changes.{Answer, stays, shown_after, machine_after}
use Rattle.xf_types.specs.PolicyList.{first_policy, has_key, without}
use Rattle.xf_types.specs.StateList.{latest_match, id_of, has_sid, is_none, is_that, larval_replaced}
use Rattle.xf_types.specs.OwnParts.{own_in, own_without}
use Rattle.xf_types.specs.PolicyRules as p
use Rattle.xf_types.specs.StateRules as s
use Rattle.xf_types.specs.FlowRules as f
use Rattle.xf_types.specs.TrafficRules as t
use Rattle.xf_types.specs.Resolution.{Resolution, Through, Waits, Wants}
use Rattle.xf_types.specs.OneState.{put_back, on_found}
use Rattle.xf_types.specs.Steps.{rule_of, by_rule}
use Rattle.xf_types.specs.IsMachine.{AreOwn}
use Rattle.xf_laws.specs.LaterLaws.{IsLater}
use Rattle.xf_laws.proofs.LocalLemmas.{applied-shown}

-- what is shown after the answer is later
record Follows (m : Shown) (a : Answer) : Type 0 where
  later : IsLater m (shown_after m a.change)

-- a number that is kept
kept : (n : ℕ) → (n ≤ n) × (n ≤ n + 1)
kept n = (omega arith, omega arith)

-- one that is used
used : (n : ℕ) → (n ≤ n + 1) × (n + 1 ≤ n + 1)
used n = (omega arith, omega arith)

-- by its parts, of which most compute
later : (m t : Shown) → t.max_policies ≡ m.max_policies → t.max_states ≡ m.max_states → t.time ≡ m.time
    → (m.next_number ≤ t.next_number) × (t.next_number ≤ m.next_number + 1) → (m.next_sid ≤ t.next_sid) × (t.next_sid ≤ m.next_sid + 1)
    → IsLater m t
later m t policies states time number sid =
    record {
      max_policies = policies;
      max_states = states;
      time = omega arith;
      number_kept = number.0;
      number_next = number.1;
      sid_kept = sid.0;
      sid_next = sid.1;
    }

-- nothing is used
same : (m : Shown) → IsLater m m
same m = later m m refl refl refl (kept m.next_number) (kept m.next_sid)

-- an answer that changes nothing
stayed : (m : Shown) (r : Reply) → Follows m (stays r)
stayed m r = record { later = same m }

-- by a test
either : (m : Shown) (b : Bool) (x y : Answer) → Follows m x → Follows m y → Follows m (cond b x y)
either m true x y h k = h
either m false x y h k = k

-- a policy is added where there is room
policy_room : (m : Shown) (spec : PolicySpec) → Follows m (p.policy_added_if_room m spec)
policy_room m spec =
    either m (nat_le m.max_policies (length m.policies)) _ _ (stayed m _)
    (either m (not (spec.index == 0) && not (p.is_index_taken m spec.index)) _ _
    (record { later = later m _ refl refl refl (used m.next_number) (kept m.next_sid) })
    (record { later = later m _ refl refl refl (used m.next_number) (kept m.next_sid) }))

-- where no policy is the same
policy_unless : (m : Shown) (spec : PolicySpec) (o : Option Policy) → Follows m (p.policy_added_unless_found m spec o)
policy_unless m spec None = policy_room m spec
policy_unless m spec (Some old) = stayed m _

-- or takes the place of the same
policy_replaced : (m : Shown) (spec : PolicySpec) (o : Option Policy) → Follows m (p.policy_replaced_or_added m spec o)
policy_replaced m spec None = policy_room m spec
policy_replaced m spec (Some old) = record { later = later m _ refl refl refl (used m.next_number) (kept m.next_sid) }

-- a policy leaves
policy_deleted : (m : Shown) (key : PolicyKey) (o : Option Policy) → Follows m (p.policy_deleted m key o)
policy_deleted m key None = stayed m _
policy_deleted m key (Some old) = record { later = later m _ refl refl refl (kept m.next_number) (kept m.next_sid) }

-- a policy is shown
policy_shown : (m : Shown) (o : Option Policy) → Follows m (p.policy_shown o)
policy_shown m None = stayed m _
policy_shown m (Some old) = stayed m _

-- a state is added where there is room
state_room : (m : Shown) (leaves : Sa → Bool) (spec : SaSpec) → Follows m (s.state_added_if_room m leaves spec)
state_room m leaves spec =
    either m (s.is_full m) _ _ (stayed m _) (record { later = later m _ refl refl refl (kept m.next_number) (used m.next_sid) })

-- where none was found
state_unless : (m : Shown) (leaves : Sa → Bool) (spec : SaSpec) (o : Option Sa) → Follows m (s.state_added_unless_found m leaves spec o)
state_unless m leaves spec None = state_room m leaves spec
state_unless m leaves spec (Some old) = stayed m _

-- a state is refreshed or replaced
state_updated : (m : Shown) (spec : SaSpec) (o : Option Sa) → Follows m (s.state_updated m spec o)
state_updated m spec None = stayed m _
state_updated m spec (Some old) =
    either m old.larval _ _ (state_room m (has_sid old.sid) spec)
    (record { later = later m _ refl refl refl (kept m.next_number) (kept m.next_sid) })

-- a state leaves
state_deleted : (m : Shown) (o : Option Sa) → Follows m (s.state_deleted m o)
state_deleted m None = stayed m _
state_deleted m (Some old) = record { later = later m _ refl refl refl (kept m.next_number) (kept m.next_sid) }

-- a state is shown
state_shown : (m : Shown) (o : Option Sa) → Follows m (s.state_shown o)
state_shown m None = stayed m _
state_shown m (Some old) = stayed m _

-- a larval state with a fresh SPI is added
allocated : (m : Shown) (spec : AllocSpec) (o : Option ℕ) → Follows m (s.allocated m spec o)
allocated m spec None = stayed m _
allocated m spec (Some spi) =
    either m (s.is_full m) _ _ (stayed m _) (record { later = later m _ refl refl refl (kept m.next_number) (used m.next_sid) })

-- by the resolution of the templates
answered : (m : Shown) (x : Policy) (wants : f.WantAnswer) → ((t : Template) (place : ℕ) (src dst : Addr) → Follows m (wants t place src dst))
    → (r : Resolution) → Follows m (f.flow_answer x wants r)
answered m x wants h (Through path) = stayed m _
answered m x wants h (Waits seq) = stayed m _
answered m x wants h (Wants t place src dst) = h t place src dst

-- by the policy's action
by_action : (m : Shown) (flow : Flow) (x : Policy) (wants : f.WantAnswer)
    → ((t : Template) (place : ℕ) (src dst : Addr) → Follows m (wants t place src dst)) → (a : Action)
    → Follows m (f.by_action m flow x wants a)
by_action m flow x wants h Block = stayed m _
by_action m flow x wants h Allow = answered m x wants h (f.resolved m flow x)

-- by the first policy
by_policy : (m : Shown) (flow : Flow) (wants : Policy → f.WantAnswer)
    → ((x : Policy) (t : Template) (place : ℕ) (src dst : Addr) → Follows m (wants x t place src dst)) → (o : Option Policy)
    → Follows m (f.by_policy m flow wants o)
by_policy m flow wants h None = stayed m _
by_policy m flow wants h (Some x) = by_action m flow x (wants x) (h x) x.spec.action

-- by the shown part, and by one state
by_answer : (m : Machine) (a : Answer) → Follows m.shown a → IsLater m.shown (machine_after m a.change).shown
by_answer m a h = subst (λ (t : Shown). IsLater m.shown t) (sym (applied-shown m a.change)) h.later

-- the state's fate gives no number
by_fate : (m : Machine) (x : Sa) (fate : t.Fate) → IsLater m.shown (put_back m x fate).shown
by_fate m x t.Same = same m.shown
by_fate m x t.Ends = later m.shown _ refl refl refl (kept m.shown.next_number) (kept m.shown.next_sid)
by_fate m x (t.Becomes soft own) = later m.shown _ refl refl refl (kept m.shown.next_number) (kept m.shown.next_sid)

-- where the state is found or missing
by_state : (m : Machine) (missing : Reply) (treat : ℕ → Sa → Own → t.Treated) (o : Option Sa)
    → IsLater m.shown (on_found m missing treat o).machine.shown
by_state m missing treat None = same m.shown
by_state m missing treat (Some x) = by_fate m x (treat m.shown.time x (own_in m x)).fate

-- each call
pub step-later : (m : Machine) (c : Call) → IsLater m.shown (by_rule m (rule_of m.shown c)).machine.shown
step-later m (call.PolicyAdd spec) =
    by_answer m (p.policy_add m.shown spec)
    (either m.shown (p.is_bad_index spec) _ _ (stayed m.shown _) (policy_unless m.shown spec (p.policy_same_as m.shown spec)))
step-later m (call.PolicyUpdate spec) =
    by_answer m (p.policy_update m.shown spec)
    (either m.shown (p.is_bad_index spec) _ _ (stayed m.shown _) (policy_replaced m.shown spec (p.policy_same_as m.shown spec)))
step-later m (call.PolicyDelete key) =
    by_answer m (p.policy_delete m.shown key)
    (either m.shown (p.is_bad_key key) _ _ (stayed m.shown _) (policy_deleted m.shown key (find (has_key key) m.shown.policies)))
step-later m (call.PolicyGet key) =
    by_answer m (p.policy_get m.shown key)
    (either m.shown (p.is_bad_key key) _ _ (stayed m.shown _) (policy_shown m.shown (find (has_key key) m.shown.policies)))
step-later m (call.PolicyDeleteAll filter) = later m.shown _ refl refl refl (kept m.shown.next_number) (kept m.shown.next_sid)
step-later m (call.PolicyList filter) = same m.shown
step-later m (call.PolicyFlush ptype) = later m.shown _ refl refl refl (kept m.shown.next_number) (kept m.shown.next_sid)
step-later m call.PolicyCount = same m.shown
step-later m (call.PolicySet set) = later m.shown _ refl refl refl (kept m.shown.next_number) (kept m.shown.next_sid)
step-later m (call.StateAdd spec) =
    by_answer m (s.state_add m.shown spec)
    (let leaves = is_that (larval_replaced m.shown.states spec) in
    state_unless m.shown leaves spec (latest_match (without leaves m.shown.states) (id_of spec)))
step-later m (call.StateUpdate spec) =
    by_answer m (s.state_update m.shown spec) (state_updated m.shown spec (latest_match m.shown.states (id_of spec)))
step-later m (call.StateDelete id) =
    by_answer m (s.state_delete m.shown id) (state_deleted m.shown (latest_match m.shown.states id))
step-later m (call.StateGet id) = by_answer m (s.state_get m.shown id) (state_shown m.shown (latest_match m.shown.states id))
step-later m (call.StateDeleteAll filter) = later m.shown _ refl refl refl (kept m.shown.next_number) (kept m.shown.next_sid)
step-later m (call.StateList filter) = same m.shown
step-later m (call.StateFlush proto) = later m.shown _ refl refl refl (kept m.shown.next_number) (kept m.shown.next_sid)
step-later m call.StateCount = same m.shown
step-later m (call.AllocSpi spec) =
    by_answer m (s.alloc_spi m.shown spec)
    (either m.shown (nat_lt spec.max spec.min) _ _ (stayed m.shown _) (allocated m.shown spec (s.free_spi spec m.shown.states)))
step-later m (call.Flow flow) =
    by_answer m (f.flow_rule m.shown flow)
    (by_policy m.shown flow (λ x k place src dst. f.acquired m.shown x k src dst)
    (λ x k place src dst.
    either m.shown (s.is_full m.shown) _ _ (stayed m.shown _)
    (record { later = later m.shown _ refl refl refl (kept m.shown.next_number) (used m.shown.next_sid) }))
    (first_policy m.shown.policies flow))
step-later m (call.TryFlow flow) =
    by_answer m (f.try_rule m.shown flow)
    (by_policy m.shown flow (λ x k place src dst. stays (Wanting x.index place)) (λ x k place src dst. stayed m.shown _)
    (first_policy m.shown.policies flow))
step-later m (call.Packet k) = by_state m reply.NoState (t.packet_at k) (latest_match m.shown.states (t.id_of_packet k))
step-later m (call.Output sid len) = by_state m reply.Stale (t.output_at len) (find (has_sid sid) m.shown.states)
step-later m (call.Tick given) =
    let next = max m.shown.time given in
    record {
      max_policies = refl;
      max_states = refl;
      time = max-le m.shown.time given;
      number_kept = (kept m.shown.next_number).0;
      number_next = (kept m.shown.next_number).1;
      sid_kept = (kept m.shown.next_sid).0;
      sid_next = (kept m.shown.next_sid).1;
    }
  where
    max-le : (a b : ℕ) → a ≤ max a b
    max-le a b = omega arith

-- where none leaves, all are left
pub none-leaves : (states : List Sa) → without is_none states ≡ states
none-leaves [] = refl
none-leaves (x ∷ states) = ap (λ xs. x ∷ xs) (none-leaves states)

-- nor does an own part
pub no-own-leaves : (states : List Sa) (own : List Own) → AreOwn states own → own_without is_none states own ≡ own
no-own-leaves [] [] h = refl
no-own-leaves [] (o ∷ own) h = absurd h
no-own-leaves (x ∷ states) [] h = absurd h
no-own-leaves (x ∷ states) (o ∷ own) h = ap (λ os. o ∷ os) (no-own-leaves states own h.1)
