-- What each answer by the shown part may do to the records that are listed: one of six forms.
use Rattle.std.proofs.Common.{ℕ, ◌≡◌, Bool, true, false, not, ◌&&◌, ◌==◌, List, length, refl, cond, Option, None, Some, find, All, Contains, inl, inr, ◌⊎◌}
use Rattle.std.proofs.lemmas.List.Elements.{All-weaker, All-filter, All-contains_itself}
use Rattle.std.specs.List.{position_or_len}
use Rattle.std.specs.Prelude.{nat_le, nat_lt, unwrap_or}
use Rattle.xf_types.specs.declared.network.Addr.{Addr}
use Rattle.xf_types.specs.declared.network.Flow.{Flow}
use Rattle.xf_types.specs.declared.policy.Action.{Action}
use Rattle.xf_types.specs.declared.policy.Action.TheVariants.{Allow, Block}
use Rattle.xf_types.specs.declared.policy.Policy.{Policy}
use Rattle.xf_types.specs.declared.policy.PolicyKey.{PolicyKey}
use Rattle.xf_types.specs.declared.policy.PolicySpec.{PolicySpec}
use Rattle.xf_types.specs.declared.policy.Template.{Template}
use Rattle.xf_types.specs.declared.policy.Thresholds.{Thresholds}
use Rattle.xf_types.specs.declared.state.AllocSpec.{AllocSpec}
use Rattle.xf_types.specs.declared.state.Sa.{Sa}
use Rattle.xf_types.specs.declared.state.SaId.{SaId}
use Rattle.xf_types.specs.declared.state.SaSpec.{SaSpec}
use Rattle.xf_types.specs.declared.call.Call.{Call}
use Rattle.xf_types.specs.declared.call.Call.TheVariants as call
use Rattle.xf_types.specs.declared.call.Reply.{Reply}
use Rattle.xf_types.specs.declared.call.Reply.TheVariants as reply
use Rattle.xf_types.specs.Machine.{Shown}
use Rattle.xf_types.specs.Changes.{Answer, NewState, Stays, InPlace, LeaveThen, stays, answer}
use Rattle.xf_types.specs.Counters.{next_in}
use Rattle.xf_types.specs.PolicyList.{first_policy, has_key, comes_after, is_same, without}
use Rattle.xf_types.specs.StateList.{latest_match, id_of, has_sid, changed, is_none, is_that, larval_replaced}
use Rattle.xf_types.specs.ChangeIds.{sets_thresholds}
use Rattle.xf_types.specs.PolicyRules as p
use Rattle.xf_types.specs.StateRules as st
use Rattle.xf_types.specs.FlowRules as f
use Rattle.xf_types.specs.Resolution.{Resolution, Through, Waits, Wants}
use Rattle.xf_laws.specs.NewLaws.{IsNewPolicy}
use Rattle.xf_laws.proofs.ListLemmas.{All-insert}

-- a policy is a listed one, of which at most the soft flag is another
pub record IsListedPolicy (policies : List Policy) (q : Policy) : Type 0 where
  pub old : Policy
  pub here : Contains policies old
  pub same : record q { soft = old.soft } ≡ old

-- one or the other
abbrev pub IsPolicyOf : Shown → Policy → Type 0
IsPolicyOf s q = IsListedPolicy s.policies q ⊎ IsNewPolicy s q

-- the rest of what is shown is as it was, but for the policies and what is counted
pub record IsBesidePolicies (s t : Shown) : Type 0 where
  pub states : t.states ≡ s.states
  pub time : t.time ≡ s.time
  pub policies : All (IsPolicyOf s) t.policies

-- nothing changes; the policy list does; the thresholds do; a state is refreshed; states leave; states leave and one is added
pub data Form (s : Shown) (c : Call) (a : Answer) : Type 0 where
  Still : a.change ≡ Stays → Form s c a
  Listed : (t : Shown) → a.change ≡ InPlace t → IsBesidePolicies s t → (t.hthresh4 ≡ s.hthresh4) × (t.hthresh6 ≡ s.hthresh6)
      → Form s c a
  Set : (t : Shown) → a.change ≡ InPlace t → IsBesidePolicies s t → t.policies ≡ s.policies → sets_thresholds a.reply ≡ true
      → Form s c a
  Refreshed : (spec : SaSpec) (sid : ℕ) → c ≡ call.StateUpdate spec
      → a ≡ answer (reply.DoneSid sid) (InPlace (record s { states = changed sid (st.refreshed_record spec) s.states })) → Form s c a
  Left : (leaves : Sa → Bool) → a.change ≡ LeaveThen s leaves None → Form s c a
  Added : (next : ℕ) (leaves : Sa → Bool) (new : NewState) → a.change ≡ LeaveThen (record s { next_seq = next }) leaves (Some new)
      → Form s c a

-- each listed policy is one
pub all-listed : (s : Shown) → All (IsPolicyOf s) s.policies
all-listed s =
    All-weaker (Contains s.policies) (IsPolicyOf s) (λ p here. inl (record { old = p; here = here; same = refl })) s.policies
    (All-contains_itself s.policies)

module _ (m : Shown) (c : Call) where
  -- a reply that changes nothing
  pub said : (r : Reply) → Form m c (stays r)
  said r = Still refl

  -- by a test
  either : (b : Bool) (x y : Answer) → Form m c x → Form m c y → Form m c (cond b x y)
  either true x y h k = h
  either false x y h k = k

  -- a new policy among others
  put : (r : Reply) (next index : ℕ) (spec : PolicySpec) (others : List Policy) → All (IsPolicyOf m) others
      → Form m c (answer r (InPlace (p.with_policy (record m { next_index = next }) spec index others)))
  put r next index spec others all =
      let new : Policy = record { number = m.next_number; index = index; added = m.time; soft = false; spec = spec } in
      Listed (p.with_policy (record m { next_index = next }) spec index others) refl
      (record {
        states = refl;
        time = refl;
        policies =
            All-insert (IsPolicyOf m) others (position_or_len (λ q. comes_after q new) others) new all
            (inr (record { number = refl; soft = refl; added = refl }));
      })
      (refl, refl)

  -- policies leave
  pub dropped : (r : Reply) (test : Policy → Bool) → Form m c (answer r (InPlace (record m { policies = without test m.policies })))
  dropped r test =
      Listed (record m { policies = without test m.policies }) refl
      (record {
        states = refl;
        time = refl;
        policies = All-filter (λ q. not (test q)) (IsPolicyOf m) m.policies (all-listed m);
      })
      (refl, refl)

  -- a policy is added where there is room
  policy_room : (spec : PolicySpec) → Form m c (p.policy_added_if_room m spec)
  policy_room spec =
      let k : ℕ = p.free_number m spec.dir in
      either (nat_le m.max_policies (length m.policies)) _ _ (said (reply.Full (length m.policies) 0))
      (either (not (spec.index == 0) && not (p.is_index_taken m spec.index)) _ _
      (put (reply.DoneIndex spec.index) m.next_index spec.index spec m.policies (all-listed m))
      (put _ (next_in p.last_index k) _ spec m.policies (all-listed m)))

  -- where no policy is the same
  policy_unless : (spec : PolicySpec) (o : Option Policy) → Form m c (p.policy_added_unless_found m spec o)
  policy_unless spec None = policy_room spec
  policy_unless spec (Some old) = said (reply.PolicyExists old.index)

  -- or takes the place of the same
  policy_replaced : (spec : PolicySpec) (o : Option Policy) → Form m c (p.policy_replaced_or_added m spec o)
  policy_replaced spec None = policy_room spec
  policy_replaced spec (Some old) =
      let test : Policy → Bool = λ q. is_same q.spec spec in
      put (reply.DoneIndex old.index) m.next_index old.index spec (without test m.policies)
      (All-filter (λ q. not (test q)) (IsPolicyOf m) m.policies (all-listed m))

  -- a policy leaves
  policy_deleted : (key : PolicyKey) (o : Option Policy) → Form m c (p.policy_deleted m key o)
  policy_deleted key None = said reply.NoEntry
  policy_deleted key (Some old) = dropped (reply.DoneIndex old.index) (has_key key)

  -- a policy is shown
  policy_shown : (o : Option Policy) → Form m c (p.policy_shown o)
  policy_shown None = said reply.NoEntry
  policy_shown (Some old) = said (reply.PolicyShown old)

  -- states leave
  pub left : (r : Reply) (leaves : Sa → Bool) → Form m c (answer r (LeaveThen m leaves None))
  left r leaves = Left leaves refl

  -- and one is added
  added : (r : Reply) (next : ℕ) (leaves : Sa → Bool) (new : NewState)
      → Form m c (answer r (LeaveThen (record m { next_seq = next }) leaves (Some new)))
  added r next leaves new = Added next leaves new refl

  -- a state is added where there is room
  state_room : (leaves : Sa → Bool) (spec : SaSpec) → Form m c (st.state_added_if_room m leaves spec)
  state_room leaves spec =
      either (st.is_full m) _ _ (said (reply.Full (length m.states) 0))
      (added (reply.DoneSid m.next_sid) m.next_seq leaves (record { spec = spec; larval = false }))

  -- where none was found
  state_unless : (leaves : Sa → Bool) (spec : SaSpec) (o : Option Sa) → Form m c (st.state_added_unless_found m leaves spec o)
  state_unless leaves spec None = state_room leaves spec
  state_unless leaves spec (Some old) = said (reply.StateExists old.sid)

  -- a state is refreshed or replaced
  state_updated : (spec : SaSpec) → c ≡ call.StateUpdate spec → (o : Option Sa) → Form m c (st.state_updated m spec o)
  state_updated spec is None = said reply.NoState
  state_updated spec is (Some old) =
      either old.larval _ _ (state_room (has_sid old.sid) spec) (Refreshed spec old.sid is refl)

  -- a state leaves
  state_deleted : (o : Option Sa) → Form m c (st.state_deleted m o)
  state_deleted None = said reply.NoState
  state_deleted (Some old) = left (reply.DoneSid old.sid) (has_sid old.sid)

  -- a state is shown
  state_shown : (o : Option Sa) → Form m c (st.state_shown o)
  state_shown None = said reply.NoState
  state_shown (Some old) = said (reply.StateShown old)

  -- a larval state with a fresh SPI is added
  allocated : (spec : AllocSpec) (o : Option ℕ) → Form m c (st.allocated m spec o)
  allocated spec None = said reply.NoSpi
  allocated spec (Some spi) =
      either (st.is_full m) _ _ (said (reply.Full (length m.states) 0))
      (added (reply.DoneSpi spi m.next_sid) m.next_seq is_none (record { spec = st.larval_spec spec spi; larval = true }))

  -- by the resolution of the templates
  answered : (x : Policy) (wants : f.WantAnswer) → ((t : Template) (place : ℕ) (src dst : Addr) → Form m c (wants t place src dst))
      → (r : Resolution) → Form m c (f.flow_answer x wants r)
  answered x wants h (Through path) = said (reply.FlowAllow x.index path)
  answered x wants h (Waits seq) = said (reply.Waiting seq)
  answered x wants h (Wants t place src dst) = h t place src dst

  -- by the policy's action
  by_action : (flow : Flow) (x : Policy) (wants : f.WantAnswer)
      → ((t : Template) (place : ℕ) (src dst : Addr) → Form m c (wants t place src dst)) → (a : Action)
      → Form m c (f.by_action m flow x wants a)
  by_action flow x wants h Block = said (reply.FlowBlock x.index)
  by_action flow x wants h Allow = answered x wants h (f.resolved m flow x)

  -- by the first policy
  by_policy : (flow : Flow) (wants : Policy → f.WantAnswer)
      → ((x : Policy) (t : Template) (place : ℕ) (src dst : Addr) → Form m c (wants x t place src dst)) → (o : Option Policy)
      → Form m c (f.by_policy m flow wants o)
  by_policy flow wants h None = said reply.FlowNone
  by_policy flow wants h (Some x) = by_action flow x (wants x) (h x) x.spec.action

  -- policy add
  pub policy_add-form : (spec : PolicySpec) → Form m c (p.policy_add m spec)
  policy_add-form spec = either (p.is_bad_index spec) _ _ (said reply.Invalid) (policy_unless spec (p.policy_same_as m spec))

  -- policy update
  pub policy_update-form : (spec : PolicySpec) → Form m c (p.policy_update m spec)
  policy_update-form spec = either (p.is_bad_index spec) _ _ (said reply.Invalid) (policy_replaced spec (p.policy_same_as m spec))

  -- policy delete
  pub policy_delete-form : (key : PolicyKey) → Form m c (p.policy_delete m key)
  policy_delete-form key = either (p.is_bad_key key) _ _ (said reply.Invalid) (policy_deleted key (find (has_key key) m.policies))

  -- policy get
  pub policy_get-form : (key : PolicyKey) → Form m c (p.policy_get m key)
  policy_get-form key = either (p.is_bad_key key) _ _ (said reply.Invalid) (policy_shown (find (has_key key) m.policies))

  -- policy set
  pub policy_set-form : (set : Thresholds) → Form m c (p.policy_set m set)
  policy_set-form set =
      Set (record m { hthresh4 = unwrap_or set.v4 m.hthresh4; hthresh6 = unwrap_or set.v6 m.hthresh6 }) refl
      (record { states = refl; time = refl; policies = all-listed m })
      refl refl

  -- state add
  pub state_add-form : (spec : SaSpec) → Form m c (st.state_add m spec)
  state_add-form spec =
      let leaves = is_that (larval_replaced m.states spec) in
      state_unless leaves spec (latest_match (without leaves m.states) (id_of spec))

  -- state update
  pub state_update-form : (spec : SaSpec) → c ≡ call.StateUpdate spec → Form m c (st.state_update m spec)
  state_update-form spec is = state_updated spec is (latest_match m.states (id_of spec))

  -- state delete
  pub state_delete-form : (id : SaId) → Form m c (st.state_delete m id)
  state_delete-form id = state_deleted (latest_match m.states id)

  -- state get
  pub state_get-form : (id : SaId) → Form m c (st.state_get m id)
  state_get-form id = state_shown (latest_match m.states id)

  -- allocspi
  pub alloc_spi-form : (spec : AllocSpec) → Form m c (st.alloc_spi m spec)
  alloc_spi-form spec = either (nat_lt spec.max spec.min) _ _ (said reply.Invalid) (allocated spec (st.free_spi spec m.states))

  -- a flow
  pub flow-form : (flow : Flow) → Form m c (f.flow_rule m flow)
  flow-form flow =
      by_policy flow (λ x k place src dst. f.acquired m x k src dst)
      (λ x k place src dst.
      let seq : ℕ = f.free_seq m in
      either (st.is_full m) _ _ (said (reply.Full (length m.states) 0))
      (added (reply.Acquire seq) (next_in f.last_seq seq) is_none
      (record { spec = f.acquired_spec x k src dst seq; larval = true })))
      (first_policy m.policies flow)

  -- a flow without change
  pub try-form : (flow : Flow) → Form m c (f.try_rule m flow)
  try-form flow =
      by_policy flow (λ x k place src dst. stays (reply.Wanting x.index place))
      (λ x k place src dst. said (reply.Wanting x.index place))
      (first_policy m.policies flow)
