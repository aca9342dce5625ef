-- The moves say what is shown: after a tick, after each call, and after a history.
use Rattle.std.proofs.Common.{ℕ, ◌≡◌, max, Bool, false, not, ◌&&◌, List, [], ◌∷◌, get_or, map, refl, ap, sym, ◌∙◌, zip}
use Rattle.std.proofs.lemmas.Bool.{not-true}
use Rattle.std.proofs.lemmas.List.Elements.{All-filter, filter_passes}
use Rattle.std.proofs.lemmas.Simd.{map-map}
use Rattle.std.specs.List.{list_any}
use Rattle.xf_types.specs.declared.policy.Policy.{Policy}
use Rattle.xf_types.specs.declared.state.Sa.{Sa}
use Rattle.xf_types.specs.declared.call.Call.{Call}
use Rattle.xf_types.specs.declared.call.Call.TheVariants as call
use Rattle.xf_types.specs.declared.call.Event.{Event}
use Rattle.xf_types.specs.Machine.{Machine, Own}
use Rattle.xf_types.specs.PolicyList.{without}
use Rattle.xf_types.specs.OneState.{dying_if}
use Rattle.xf_types.specs.TickRules.{soft_if, policy_ends, policy_later, state_ends, state_warns, state_later, with_own, staying, at_time, events_at}
use Rattle.xf_types.specs.Steps.{rule_of, by_rule}
use Rattle.xf_types.specs.Moves.{ends_policy, warns_policy, ends_state, warns_state, at_events, after_move}
use Rattle.xf_types.specs.IsMachine.{IsMachine, AreOwn}
use Rattle.xf_laws.proofs.ListLemmas.{filter_agree_on, map_agree_on, left-map}
use Rattle.xf_laws.proofs.TickKeepLemmas.{zip-pairs}
use Rattle.xf_laws.proofs.EventLemmas.{policies-end, policies-warn, states-end, states-warn}
use Rattle.xf_laws.proofs.StepLemmas.{step-moved}

-- the policies after the events
policies-moved : (m : Machine) (time : ℕ) → IsMachine m
    → map (policy_later time) (without (policy_ends time) m.shown.policies)
    ≡ map (λ p. soft_if (list_any (warns_policy p.index) (events_at m time)) p)
    (without (λ p. list_any (ends_policy p.index) (events_at m time)) m.shown.policies)
policies-moved m time h =
    let ps : List Policy = m.shown.policies in
    let said : List Event = events_at m time in
    let apart = h.shown.policies.indices in
    let ended : Policy → Bool = λ p. list_any (ends_policy p.index) said in
    let warned : Policy → Bool = λ p. list_any (warns_policy p.index) said in
    let warns = policies-warn time ps (with_own m) apart in
    map_agree_on (policy_later time) (λ p. soft_if (warned p) p) (without (policy_ends time) ps)
    (All-filter (λ p. not (policy_ends time p)) (λ p. policy_later time p ≡ soft_if (warned p) p) ps
    (λ k d within. ap (λ (b : Bool). soft_if b (get_or ps k d)) (warns k d within)))
    ∙ ap (map (λ p. soft_if (warned p) p))
    (filter_agree_on (λ p. not (policy_ends time p)) (λ p. not (ended p)) ps
    (λ k d within. ap not (policies-end time ps (with_own m) apart k d within)))

-- the states, each with its own part
zip-states : (states : List Sa) (own : List Own) → AreOwn states own → map (λ z. z.0) (zip states own) ≡ states
zip-states [] [] h = refl
zip-states [] (o ∷ own) h = absurd h
zip-states (x ∷ states) [] h = absurd h
zip-states (x ∷ states) (o ∷ own) h = ap (λ xs. x ∷ xs) (zip-states states own h.1)

-- the states after the events
pub states-moved : (m : Machine) (time : ℕ) → IsMachine m
    → map (state_later time) (staying m time)
    ≡ map (λ x. dying_if (list_any (warns_state x.sid) (events_at m time)) x)
    (without (λ x. list_any (ends_state x.sid) (events_at m time)) m.shown.states)
states-moved m time h =
    let zs : List (Sa × Own) = with_own m in
    let said : List Event = events_at m time in
    let apart = zip-pairs (λ x y. x.sid ≡ y.sid → ⊥) m.shown.states m.own h.shown.states.sids in
    let ended : Sa → Bool = λ x. list_any (ends_state x.sid) said in
    let warned : Sa → Bool = λ x. list_any (warns_state x.sid) said in
    let change : Sa → Sa = λ x. dying_if (warned x) x in
    let first : Sa × Own → Sa = λ z. z.0 in
    let stays : Sa × Own → Bool = λ z. not (state_ends time z) in
    let warns =
    All-filter stays (λ (z : Sa × Own). (not (state_ends time z) && state_warns time z) ≡ warned z.0) zs
    (states-warn time m.shown.policies zs apart) in
    map_agree_on (state_later time) (λ z. change (first z)) (staying m time)
    (λ k d within.
    let z : Sa × Own = get_or (staying m time) k d in
    let alive : state_ends time z ≡ false = not-true (state_ends time z) (filter_passes stays zs k d within) in
    ap (λ (b : Bool). dying_if b z.0) (sym (ap (λ (b : Bool). not b && state_warns time z) alive) ∙ warns k d within))
    ∙ sym (map-map change first (staying m time))
    ∙ ap (λ (ys : List (Sa × Own)). map change (map first ys))
    (filter_agree_on stays (λ z. not (ended (first z))) zs
    (λ k d within. ap not (states-end time m.shown.policies zs apart k d within)))
    ∙ ap (map change) (sym (left-map first ended zs))
    ∙ ap (λ (xs : List Sa). map change (without ended xs)) (zip-states m.shown.states m.own h.own)

-- what is shown after a tick is what its events say
tick-moved : (m : Machine) (time : ℕ) → IsMachine m → (at_time m time).shown ≡ at_events m.shown time (events_at m time)
tick-moved m time h =
    ap (λ (ps : List Policy). record m.shown { time = time; policies = ps; states = map (state_later time) (staying m time) })
    (policies-moved m time h)
    ∙ ap (λ (xs : List Sa).
    record m.shown {
      time = time;
      policies =
          map (λ p. soft_if (list_any (warns_policy p.index) (events_at m time)) p)
          (without (λ p. list_any (ends_policy p.index) (events_at m time)) m.shown.policies);
      states = xs;
    }) (states-moved m time h)

-- each call
pub call-moved : (m : Machine) (c : Call) → IsMachine m
    → (by_rule m (rule_of m.shown c)).machine.shown ≡ after_move m.shown c (by_rule m (rule_of m.shown c)).reply
call-moved m (call.PolicyAdd spec) h = step-moved m (call.PolicyAdd spec) refl
call-moved m (call.PolicyUpdate spec) h = step-moved m (call.PolicyUpdate spec) refl
call-moved m (call.PolicyDelete key) h = step-moved m (call.PolicyDelete key) refl
call-moved m (call.PolicyGet key) h = step-moved m (call.PolicyGet key) refl
call-moved m (call.PolicyDeleteAll filter) h = step-moved m (call.PolicyDeleteAll filter) refl
call-moved m (call.PolicyList filter) h = step-moved m (call.PolicyList filter) refl
call-moved m (call.PolicyFlush ptype) h = step-moved m (call.PolicyFlush ptype) refl
call-moved m call.PolicyCount h = step-moved m call.PolicyCount refl
call-moved m (call.PolicySet set) h = step-moved m (call.PolicySet set) refl
call-moved m (call.StateAdd spec) h = step-moved m (call.StateAdd spec) refl
call-moved m (call.StateUpdate spec) h = step-moved m (call.StateUpdate spec) refl
call-moved m (call.StateDelete id) h = step-moved m (call.StateDelete id) refl
call-moved m (call.StateGet id) h = step-moved m (call.StateGet id) refl
call-moved m (call.StateDeleteAll filter) h = step-moved m (call.StateDeleteAll filter) refl
call-moved m (call.StateList filter) h = step-moved m (call.StateList filter) refl
call-moved m (call.StateFlush proto) h = step-moved m (call.StateFlush proto) refl
call-moved m call.StateCount h = step-moved m call.StateCount refl
call-moved m (call.AllocSpi spec) h = step-moved m (call.AllocSpi spec) refl
call-moved m (call.Flow flow) h = step-moved m (call.Flow flow) refl
call-moved m (call.TryFlow flow) h = step-moved m (call.TryFlow flow) refl
call-moved m (call.Packet packet) h = step-moved m (call.Packet packet) refl
call-moved m (call.Output sid len) h = step-moved m (call.Output sid len) refl
call-moved m (call.Tick given) h = tick-moved m (max m.shown.time given) h
