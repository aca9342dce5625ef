-- What each call does to the records that are listed: to the policies, the thresholds, the time, the states and their own parts.
use Rattle.std.proofs.Common.{ℕ, ◌≡◌, max, Bool, true, false, not, List, [], ◌∷◌, ◌++◌, map, refl, ap, sym, ◌∙◌, subst, cond, Option, None, Some, find, All, Contains, inl}
use Rattle.std.proofs.lemmas.Bool.{both_ways}
use Rattle.std.proofs.lemmas.List.Elements.{All-nil, All-filter, All-map, All-weaker, All-contains_itself}
use Rattle.std.specs.List.{AllZip, list_any}
use Rattle.xf_types.specs.declared.policy.Policy.{Policy}
use Rattle.xf_types.specs.declared.state.Sa.{Sa}
use Rattle.xf_types.specs.declared.call.Call.{Call}
use Rattle.xf_types.specs.declared.call.Call.TheVariants as call
use Rattle.xf_types.specs.declared.call.Reply.{Reply}
use Rattle.xf_types.specs.declared.call.Reply.TheVariants as reply
use Rattle.xf_types.specs.Machine.{Machine, Shown, Own, Outcome, outcome}
use Rattle.xf_types.specs.Same.{meets_one, same_ptype, same_proto}
use Rattle.xf_types.specs.PolicyList.{policy_meets, without}
use Rattle.xf_types.specs.StateList.{latest_match, has_sid, state_meets, is_none}
use Rattle.xf_types.specs.OwnParts.{new_own, own_without, own_in}
use Rattle.xf_types.specs.Changes.{Answer, Change, NewState, InPlace, applied, machine_after, answer}
use Rattle.xf_types.specs.ChangeIds.{sets_thresholds}
use Rattle.xf_types.specs.PolicyRules as p
use Rattle.xf_types.specs.StateRules as st
use Rattle.xf_types.specs.FlowRules as f
use Rattle.xf_types.specs.TrafficRules.{Treated, Fate, Same, Ends, Becomes, packet_at, output_at, id_of_packet}
use Rattle.xf_types.specs.OneState.{dying_if, put_back, on_found}
use Rattle.xf_types.specs.TickRules.{soft_if, policy_ends, policy_warns, policy_later, at_time, events_at}
use Rattle.xf_types.specs.Moves.{ends_state, warns_state}
use Rattle.xf_types.specs.Steps.{Rule, ByShown, ByState, rule_of, by_rule}
use Rattle.xf_types.specs.IsMachine.{IsMachine, IsOwnOf, AreOwn}
use Rattle.xf_laws.specs.NewLaws.{IsNewState}
use Rattle.xf_laws.specs.OwnLaws.{added_record}
use Rattle.xf_laws.specs.StepLaws.{is_tick}
use Rattle.xf_laws.proofs.BesideLemmas.{zip-weaker}
use Rattle.xf_laws.proofs.LaterLemmas.{none-leaves}
use Rattle.xf_laws.proofs.StateKeepLemmas.{own-without, own-push}
use Rattle.xf_laws.proofs.MachineLemmas.{step-kept}
use Rattle.xf_laws.proofs.MoveLemmas.{states-moved}
use Rattle.xf_laws.proofs.FormLemmas as form
use Rattle.xf_laws.proofs.FormLemmas.{Form, Still, Listed, Set, Refreshed, Left, Added, IsPolicyOf, all-listed}
use Rattle.xf_laws.proofs.StateFormLemmas.{AreStatesOf, no-more, none-changed, none-new, changed-states, same-states, left-states, added-states, one-dying, dying-change, refresh-change}

-- a state with the next state id has what it begins with
abbrev pub Begins : ℕ → Sa → Own → Type 0
Begins next x o = x.sid ≡ next → o ≡ new_own x.spec

-- what a call did
pub record Told (m : Machine) (c : Call) (o : Outcome) : Type 0 where
  pub states : AreStatesOf m.shown c o.reply o.machine.shown.states
  pub begins : AllZip (Begins m.shown.next_sid) o.machine.shown.states o.machine.own
  pub policies : All (IsPolicyOf m.shown) o.machine.shown.policies
  pub thresholds : sets_thresholds o.reply ≡ false
      → (o.machine.shown.hthresh4 ≡ m.shown.hthresh4) × (o.machine.shown.hthresh6 ≡ m.shown.hthresh6)
  pub time : is_tick c ≡ false → o.machine.shown.time ≡ m.shown.time

-- so none of the own parts begins
none-begins : (m : Machine) (states : List Sa) (own : List Own) → All (λ x. x.sid ≡ m.shown.next_sid → ⊥) states → AreOwn states own
    → AllZip (Begins m.shown.next_sid) states own
none-begins m states own none h =
    zip-weaker (λ x. x.sid ≡ m.shown.next_sid → ⊥) IsOwnOf (Begins m.shown.next_sid) (λ x o other is e. absurd (other e)) states own none h

-- where states leave and one is added it begins
added-begins : (m : Machine) (leaves : Sa → Bool) (s : Shown) (new : NewState) → IsMachine m
    → AllZip (Begins m.shown.next_sid) (without leaves m.shown.states ++ added_record s new ∷ [])
    (own_without leaves m.shown.states m.own ++ new_own new.spec ∷ [])
added-begins m leaves s new h =
    own-push (Begins m.shown.next_sid) (without leaves m.shown.states) (own_without leaves m.shown.states m.own) (added_record s new)
    (new_own new.spec)
    (none-begins m (without leaves m.shown.states) (own_without leaves m.shown.states m.own)
    (subst (λ (xs : List Sa). All (λ x. x.sid ≡ m.shown.next_sid → ⊥) xs) (sym (none-changed (without leaves m.shown.states)))
    (none-new m.shown leaves (λ x. x) (λ x. refl) h.shown.states.sids_given))
    (own-without IsOwnOf leaves m.shown.states m.own h.own))
    (λ e. refl)

-- none of the states that stay is new
stay-begins : (m : Machine) (own : List Own) (states : List Sa) → IsMachine m → states ≡ m.shown.states → AreOwn states own
    → AllZip (Begins m.shown.next_sid) states own
stay-begins m own states h e k =
    none-begins m states own
    (subst (λ (xs : List Sa). All (λ x. x.sid ≡ m.shown.next_sid → ⊥) xs) (sym (e ∙ none-changed m.shown.states ∙ ap (map (λ x. x)) (sym (none-leaves m.shown.states))))
    (none-new m.shown is_none (λ x. x) (λ x. refl) h.shown.states.sids_given))
    k

-- nor is one that is changed
changed-begins : (m : Machine) (own : List Own) (change : Sa → Sa) → IsMachine m → ((x : Sa) → (change x).sid ≡ x.sid)
    → AreOwn (map change m.shown.states) own → AllZip (Begins m.shown.next_sid) (map change m.shown.states) own
changed-begins m own change h keeps k =
    none-begins m (map change m.shown.states) own
    (subst (λ (xs : List Sa). All (λ x. x.sid ≡ m.shown.next_sid → ⊥) (map change xs)) (none-leaves m.shown.states)
    (none-new m.shown is_none change keeps h.shown.states.sids_given))
    k

-- nor one that is left
left-begins : (m : Machine) (own : List Own) (leaves : Sa → Bool) → IsMachine m → AreOwn (without leaves m.shown.states) own
    → AllZip (Begins m.shown.next_sid) (without leaves m.shown.states) own
left-begins m own leaves h k =
    none-begins m (without leaves m.shown.states) own
    (subst (λ (xs : List Sa). All (λ x. x.sid ≡ m.shown.next_sid → ⊥) xs) (sym (none-changed (without leaves m.shown.states)))
    (none-new m.shown leaves (λ x. x) (λ x. refl) h.shown.states.sids_given))
    k

-- what an answer did
told-form : (m : Machine) (c : Call) (a : Answer) → IsMachine m
    → AreOwn (machine_after m a.change).shown.states (machine_after m a.change).own → Form m.shown c a → Told m c (applied m a)
told-form m c a h k (Still e) =
    subst (λ (d : Change). Told m c (outcome a.reply (machine_after m d))) (sym e)
    (record {
      states = same-states m.shown c a.reply m.shown.states refl;
      begins = stay-begins m m.own m.shown.states h refl h.own;
      policies = all-listed m.shown;
      thresholds = λ unset. (refl, refl);
      time = λ other. refl;
    })
told-form m c a h k (Listed t e beside kept) =
    let own : AreOwn t.states m.own = subst (λ (d : Change). AreOwn (machine_after m d).shown.states (machine_after m d).own) e k in
    subst (λ (d : Change). Told m c (outcome a.reply (machine_after m d))) (sym e)
    (record {
      states = same-states m.shown c a.reply t.states beside.states;
      begins = stay-begins m m.own t.states h beside.states own;
      policies = beside.policies;
      thresholds = λ unset. kept;
      time = λ other. beside.time;
    })
told-form m c a h k (Set t e beside same sets) =
    let own : AreOwn t.states m.own = subst (λ (d : Change). AreOwn (machine_after m d).shown.states (machine_after m d).own) e k in
    subst (λ (d : Change). Told m c (outcome a.reply (machine_after m d))) (sym e)
    (record {
      states = same-states m.shown c a.reply t.states beside.states;
      begins = stay-begins m m.own t.states h beside.states own;
      policies = beside.policies;
      thresholds = λ unset. absurd (both_ways (sets_thresholds a.reply) unset sets);
      time = λ other. beside.time;
    })
told-form m c a h k (Refreshed spec sid is e) =
    let change : Sa → Sa = λ x. cond (has_sid sid x) (st.refreshed_record spec x) x in
    let changes = refresh-change spec sid in
    let to : Answer = answer (reply.DoneSid sid) (InPlace (record m.shown { states = map change m.shown.states })) in
    let own : AreOwn (map change m.shown.states) m.own =
    subst (λ (b : Answer). AreOwn (machine_after m b.change).shown.states (machine_after m b.change).own) e k in
    let done : Told m (call.StateUpdate spec) (applied m to) =
    record {
      states = changed-states m.shown (call.StateUpdate spec) (reply.DoneSid sid) change changes;
      begins = changed-begins m m.own change h changes.sid own;
      policies = all-listed m.shown;
      thresholds = λ unset. (refl, refl);
      time = λ other. refl;
    } in
    subst (λ (b : Answer). Told m c (applied m b)) (sym e)
    (subst (λ (d : Call). Told m d (applied m to)) (sym is) done)
told-form m c a h k (Left leaves e) =
    let own : AreOwn (without leaves m.shown.states) (own_without leaves m.shown.states m.own) =
    subst (λ (d : Change). AreOwn (machine_after m d).shown.states (machine_after m d).own) e k in
    subst (λ (d : Change). Told m c (outcome a.reply (machine_after m d))) (sym e)
    (record {
      states = left-states m.shown c a.reply leaves;
      begins = left-begins m (own_without leaves m.shown.states m.own) leaves h own;
      policies = all-listed m.shown;
      thresholds = λ unset. (refl, refl);
      time = λ other. refl;
    })
told-form m c a h k (Added next leaves new e) =
    subst (λ (d : Change). Told m c (outcome a.reply (machine_after m d))) (sym e)
    (record {
      states = added-states m.shown c a.reply leaves new;
      begins = added-begins m leaves m.shown new h;
      policies = all-listed m.shown;
      thresholds = λ unset. (refl, refl);
      time = λ other. refl;
    })

-- what became of a state
told-fate : (m : Machine) (c : Call) (r : Reply) (x : Sa) (fate : Fate) → IsMachine m
    → AreOwn (put_back m x fate).shown.states (put_back m x fate).own → Told m c (outcome r (put_back m x fate))
told-fate m c r x Same h k =
    record {
      states = same-states m.shown c r m.shown.states refl;
      begins = stay-begins m m.own m.shown.states h refl h.own;
      policies = all-listed m.shown;
      thresholds = λ unset. (refl, refl);
      time = λ other. refl;
    }
told-fate m c r x Ends h k =
    record {
      states = left-states m.shown c r (has_sid x.sid);
      begins = left-begins m (own_without (has_sid x.sid) m.shown.states m.own) (has_sid x.sid) h k;
      policies = all-listed m.shown;
      thresholds = λ unset. (refl, refl);
      time = λ other. refl;
    }
told-fate m c r x (Becomes soft own) h k =
    let change : Sa → Sa = λ y. cond (has_sid x.sid y) (dying_if soft y) y in
    let changes = one-dying c r x.sid soft in
    record {
      states = changed-states m.shown c r change changes;
      begins = changed-begins m (put_back m x (Becomes soft own)).own change h changes.sid k;
      policies = all-listed m.shown;
      thresholds = λ unset. (refl, refl);
      time = λ other. refl;
    }

-- where it was found or missing
told-found : (m : Machine) (c : Call) (missing : Reply) (treat : ℕ → Sa → Own → Treated) (o : Option Sa) → IsMachine m
    → AreOwn (on_found m missing treat o).machine.shown.states (on_found m missing treat o).machine.own
    → Told m c (on_found m missing treat o)
told-found m c missing treat None h k =
    record {
      states = same-states m.shown c missing m.shown.states refl;
      begins = stay-begins m m.own m.shown.states h refl h.own;
      policies = all-listed m.shown;
      thresholds = λ unset. (refl, refl);
      time = λ other. refl;
    }
told-found m c missing treat (Some x) h k =
    let r = treat m.shown.time x (own_in m x) in told-fate m c r.reply x r.fate h k

-- a policy later is a listed one
policy_later-listed : (s : Shown) (time : ℕ) (p : Policy) → Contains s.policies p → IsPolicyOf s (policy_later time p)
policy_later-listed s time p here = inl (record { old = p; here = here; same = soft-same (policy_warns time p) p })
  where
    soft-same : (b : Bool) (q : Policy) → record (soft_if b q) { soft = q.soft } ≡ q
    soft-same true q = refl
    soft-same false q = refl

-- the passing of time
told-tick : (m : Machine) (c : Call) (r : Reply) (time : ℕ) → is_tick c ≡ true → IsMachine m → AreOwn (at_time m time).shown.states (at_time m time).own
    → Told m c (outcome r (at_time m time))
told-tick m c r time tick h k =
    let ends : Sa → Bool = λ x. list_any (ends_state x.sid) (events_at m time) in
    let change : Sa → Sa = λ x. dying_if (list_any (warns_state x.sid) (events_at m time)) x in
    let moved = states-moved m time h in
    let changes = dying-change c r (λ x. list_any (warns_state x.sid) (events_at m time)) in
    record {
      states =
          record {
            leaves = ends;
            change = change;
            new = [];
            whole = moved ∙ no-more (map change (without ends m.shown.states));
            is = changes;
            begun = All-nil (IsNewState m.shown);
          };
      begins =
          none-begins m (at_time m time).shown.states (at_time m time).own
          (subst (λ (xs : List Sa). All (λ x. x.sid ≡ m.shown.next_sid → ⊥) xs) (sym moved)
          (none-new m.shown ends change changes.sid h.shown.states.sids_given))
          k;
      policies =
          All-map (IsPolicyOf m.shown) (policy_later time) (without (policy_ends time) m.shown.policies)
          (All-filter (λ p. not (policy_ends time p)) (λ p. IsPolicyOf m.shown (policy_later time p)) m.shown.policies
          (All-weaker (Contains m.shown.policies) (λ p. IsPolicyOf m.shown (policy_later time p)) (policy_later-listed m.shown time)
          m.shown.policies (All-contains_itself m.shown.policies)));
      thresholds = λ unset. (refl, refl);
      time = λ other. absurd (both_ways (is_tick c) other tick);
    }

-- where the call is by what is shown
by_shown : (m : Machine) (c : Call) (a : Answer) → rule_of m.shown c ≡ ByShown a → IsMachine m → Form m.shown c a → Told m c (applied m a)
by_shown m c a e h f =
    let k = subst (λ (r : Rule). IsMachine (by_rule m r).machine) e (step-kept m c h) in told-form m c a h k.own f

-- where it is by one state
by_state : (m : Machine) (c : Call) (o : Option Sa) (missing : Reply) (treat : ℕ → Sa → Own → Treated)
    → rule_of m.shown c ≡ ByState o missing treat → IsMachine m → Told m c (on_found m missing treat o)
by_state m c o missing treat e h =
    let k = subst (λ (r : Rule). IsMachine (by_rule m r).machine) e (step-kept m c h) in told-found m c missing treat o h k.own

-- each call
pub told : (m : Machine) (c : Call) → IsMachine m → Told m c (by_rule m (rule_of m.shown c))
told m (call.PolicyAdd spec) h = by_shown m (call.PolicyAdd spec) (p.policy_add m.shown spec) refl h (form.policy_add-form m.shown (call.PolicyAdd spec) spec)
told m (call.PolicyUpdate spec) h = by_shown m (call.PolicyUpdate spec) (p.policy_update m.shown spec) refl h (form.policy_update-form m.shown (call.PolicyUpdate spec) spec)
told m (call.PolicyDelete key) h = by_shown m (call.PolicyDelete key) (p.policy_delete m.shown key) refl h (form.policy_delete-form m.shown (call.PolicyDelete key) key)
told m (call.PolicyGet key) h = by_shown m (call.PolicyGet key) (p.policy_get m.shown key) refl h (form.policy_get-form m.shown (call.PolicyGet key) key)
told m (call.PolicyDeleteAll filter) h = by_shown m (call.PolicyDeleteAll filter) (p.policy_deleteall m.shown filter) refl h (form.dropped m.shown (call.PolicyDeleteAll filter) (p.policy_deleteall m.shown filter).reply (policy_meets filter))
told m (call.PolicyList filter) h = by_shown m (call.PolicyList filter) (p.policy_list m.shown filter) refl h (form.said m.shown (call.PolicyList filter) (p.policy_list m.shown filter).reply)
told m (call.PolicyFlush ptype) h = by_shown m (call.PolicyFlush ptype) (p.policy_flush m.shown ptype) refl h (form.dropped m.shown (call.PolicyFlush ptype) (p.policy_flush m.shown ptype).reply (λ x. meets_one same_ptype ptype x.spec.ptype))
told m call.PolicyCount h = by_shown m call.PolicyCount (p.policy_count m.shown) refl h (form.said m.shown call.PolicyCount (p.policy_count m.shown).reply)
told m (call.PolicySet set) h = by_shown m (call.PolicySet set) (p.policy_set m.shown set) refl h (form.policy_set-form m.shown (call.PolicySet set) set)
told m (call.StateAdd spec) h = by_shown m (call.StateAdd spec) (st.state_add m.shown spec) refl h (form.state_add-form m.shown (call.StateAdd spec) spec)
told m (call.StateUpdate spec) h = by_shown m (call.StateUpdate spec) (st.state_update m.shown spec) refl h (form.state_update-form m.shown (call.StateUpdate spec) spec refl)
told m (call.StateDelete id) h = by_shown m (call.StateDelete id) (st.state_delete m.shown id) refl h (form.state_delete-form m.shown (call.StateDelete id) id)
told m (call.StateGet id) h = by_shown m (call.StateGet id) (st.state_get m.shown id) refl h (form.state_get-form m.shown (call.StateGet id) id)
told m (call.StateDeleteAll filter) h = by_shown m (call.StateDeleteAll filter) (st.state_deleteall m.shown filter) refl h (form.left m.shown (call.StateDeleteAll filter) (st.state_deleteall m.shown filter).reply (state_meets filter))
told m (call.StateList filter) h = by_shown m (call.StateList filter) (st.state_list m.shown filter) refl h (form.said m.shown (call.StateList filter) (st.state_list m.shown filter).reply)
told m (call.StateFlush proto) h = by_shown m (call.StateFlush proto) (st.state_flush m.shown proto) refl h (form.left m.shown (call.StateFlush proto) (st.state_flush m.shown proto).reply (λ x. meets_one same_proto proto x.spec.proto))
told m call.StateCount h = by_shown m call.StateCount (st.state_count m.shown) refl h (form.said m.shown call.StateCount (st.state_count m.shown).reply)
told m (call.AllocSpi spec) h = by_shown m (call.AllocSpi spec) (st.alloc_spi m.shown spec) refl h (form.alloc_spi-form m.shown (call.AllocSpi spec) spec)
told m (call.Flow flow) h = by_shown m (call.Flow flow) (f.flow_rule m.shown flow) refl h (form.flow-form m.shown (call.Flow flow) flow)
told m (call.TryFlow flow) h = by_shown m (call.TryFlow flow) (f.try_rule m.shown flow) refl h (form.try-form m.shown (call.TryFlow flow) flow)
told m (call.Packet k) h =
    by_state m (call.Packet k) (latest_match m.shown.states (id_of_packet k)) reply.NoState (packet_at k) refl h
told m (call.Output sid len) h =
    by_state m (call.Output sid len) (find (has_sid sid) m.shown.states) reply.Stale (output_at len) refl h
told m (call.Tick given) h =
    let now : ℕ = max m.shown.time given in
    told-tick m (call.Tick given) (reply.Ticked now (events_at m now)) now refl h (step-kept m (call.Tick given) h).own
