-- What a call reads of the own parts.
use Rattle.std.proofs.Common.{◌≡◌, ℕ, max, true, false, not, List, [], ◌∷◌, ◌++◌, map, refl, ap, sym, ◌∙◌, cond, Option, None, Some, find, All, zip}
use Rattle.std.proofs.lemmas.List.Elements.{All-head, All-tail}
use Rattle.std.specs.List.{AllZip, filter_map, cons_option}
use Rattle.std.specs.Prelude.{IfSome}
use Rattle.xf_types.specs.declared.state.Sa.{Sa}
use Rattle.xf_types.specs.declared.call.Call.{Call}
use Rattle.xf_types.specs.declared.call.Call.TheVariants as call
use Rattle.xf_types.specs.declared.call.Event.{Event}
use Rattle.xf_types.specs.declared.call.Reply.{Reply}
use Rattle.xf_types.specs.declared.call.Reply.TheVariants as reply
use Rattle.xf_types.specs.Machine.{Shown, Own, Outcome}
use Rattle.xf_types.specs.PolicyList.{without}
use Rattle.xf_types.specs.PolicyRules as p
use Rattle.xf_types.specs.StateRules as st
use Rattle.xf_types.specs.FlowRules as f
use Rattle.xf_types.specs.TrafficRules.{Treated, packet_at, output_at, id_of_packet}
use Rattle.xf_types.specs.StateList.{latest_match, has_sid}
use Rattle.xf_types.specs.OwnParts.{own_in}
use Rattle.xf_types.specs.Changes.{Answer, applied}
use Rattle.xf_types.specs.OneState.{on_found}
use Rattle.xf_types.specs.TickRules.{policy_ends, policy_event, policy_later, state_ends, state_event, state_later, tick}
use Rattle.xf_types.specs.Steps.{rule_of, by_rule}
use Rattle.xf_types.specs.Moves.{state_found}
use Rattle.xf_types.specs.IsMachine.{IsMachine}
use Rattle.xf_laws.specs.StepLaws.{beside}
use Rattle.xf_laws.specs.ReadLaws.{AreUsedAlike, TellTheSame}
use Rattle.xf_laws.proofs.LocalLemmas.{applied-shown, local_reply, local_shown}
use Rattle.xf_laws.proofs.BesideLemmas.{own-beside}
use Rattle.xf_laws.proofs.TrafficLemmas.{traffic-own}

-- two outcomes have the same reply and show the same
pub record Alike (x y : Outcome) : Type 0 where
  pub reply : x.reply ≡ y.reply
  pub shown : x.machine.shown ≡ y.machine.shown

-- an answer by what is shown
by_shown : (s : Shown) (a b : List Own) (x : Answer) → Alike (applied (beside s a) x) (applied (beside s b) x)
by_shown s a b x =
    record { reply = refl; shown = applied-shown (beside s a) x.change ∙ sym (applied-shown (beside s b) x.change) }

-- a rule of one state
by_state : (s : Shown) (a b : List Own) (missing : Reply) (treat : ℕ → Sa → Own → Treated) (o : Option Sa)
    → IfSome o (λ x. own_in (beside s a) x ≡ own_in (beside s b) x)
    → Alike (on_found (beside s a) missing treat o) (on_found (beside s b) missing treat o)
by_state s a b missing treat None h = record { reply = refl; shown = refl }
by_state s a b missing treat (Some x) h = record { reply = local_reply s a b x treat h; shown = local_shown s a b x treat h }

-- the events of states that were used alike
events-alike : (now : ℕ) (states : List Sa) (a b : List Own) → AreUsedAlike a b
    → filter_map (state_event now) (zip states a) ≡ filter_map (state_event now) (zip states b)
events-alike now [] a b h = refl
events-alike now (x ∷ states) [] [] h = refl
events-alike now (x ∷ states) [] (o ∷ b) h = absurd h
events-alike now (x ∷ states) (o ∷ a) [] h = absurd h
events-alike now (x ∷ states) (o ∷ a) (q ∷ b) h =
    ap (λ u. cons_option (state_event now (x, record o { first_use = u })) (filter_map (state_event now) (zip states a))) h.0
    ∙ ap (cons_option (state_event now (x, q))) (events-alike now states a b h.1)

-- one more of those that stay, later
left-more : (now : ℕ) (z : Sa × Own) (zs : List (Sa × Own))
    → map (state_later now) (without (state_ends now) (z ∷ zs))
    ≡ cond (state_ends now z) (map (state_later now) (without (state_ends now) zs))
    (state_later now z ∷ map (state_later now) (without (state_ends now) zs))
left-more now z zs =
    let rest = without (state_ends now) zs in
    elim (state_ends now z)
    as (λ b. map (state_later now) (cond (not b) (z ∷ rest) rest) ≡ cond b (map (state_later now) rest) (state_later now z ∷ map (state_later now) rest))
    [ true ↦ refl | false ↦ refl ]

-- those that stay
left-alike : (now : ℕ) (states : List Sa) (a b : List Own) → AreUsedAlike a b
    → map (state_later now) (without (state_ends now) (zip states a))
    ≡ map (state_later now) (without (state_ends now) (zip states b))
left-alike now [] a b h = refl
left-alike now (x ∷ states) [] [] h = refl
left-alike now (x ∷ states) [] (o ∷ b) h = absurd h
left-alike now (x ∷ states) (o ∷ a) [] h = absurd h
left-alike now (x ∷ states) (o ∷ a) (q ∷ b) h =
    let old : List Sa = map (state_later now) (without (state_ends now) (zip states a)) in
    let with_use : Option ℕ → Sa × Own = λ u. (x, record o { first_use = u }) in
    left-more now (x, o) (zip states a)
    ∙ ap (λ u. cond (state_ends now (with_use u)) old (state_later now (with_use u) ∷ old)) h.0
    ∙ ap (λ (ys : List Sa). cond (state_ends now (x, q)) ys (state_later now (x, q) ∷ ys)) (left-alike now states a b h.1)
    ∙ sym (left-more now (x, q) (zip states b))

-- the passing of time
by_time : (s : Shown) (a b : List Own) (given : ℕ) → AreUsedAlike a b → Alike (tick (beside s a) given) (tick (beside s b) given)
by_time s a b given h =
    let now : ℕ = max s.time given in
    let ended = filter_map (policy_event now) s.policies in
    record {
      reply = ap (λ (es : List Event). reply.Ticked now (ended ++ es)) (events-alike now s.states a b h);
      shown =
          ap (λ (xs : List Sa).
          record s {
            time = now;
            policies = map (policy_later now) (without (policy_ends now) s.policies);
            states = xs;
          }) (left-alike now s.states a b h);
    }

-- each call
pub call-alike : (s : Shown) (a b : List Own) (c : Call) → TellTheSame s a b c
    → Alike (by_rule (beside s a) (rule_of s c)) (by_rule (beside s b) (rule_of s c))
call-alike s a b (call.PolicyAdd spec) h = by_shown s a b (p.policy_add s spec)
call-alike s a b (call.PolicyUpdate spec) h = by_shown s a b (p.policy_update s spec)
call-alike s a b (call.PolicyDelete key) h = by_shown s a b (p.policy_delete s key)
call-alike s a b (call.PolicyGet key) h = by_shown s a b (p.policy_get s key)
call-alike s a b (call.PolicyDeleteAll filter) h = by_shown s a b (p.policy_deleteall s filter)
call-alike s a b (call.PolicyList filter) h = by_shown s a b (p.policy_list s filter)
call-alike s a b (call.PolicyFlush ptype) h = by_shown s a b (p.policy_flush s ptype)
call-alike s a b call.PolicyCount h = by_shown s a b (p.policy_count s)
call-alike s a b (call.PolicySet set) h = by_shown s a b (p.policy_set s set)
call-alike s a b (call.StateAdd spec) h = by_shown s a b (st.state_add s spec)
call-alike s a b (call.StateUpdate spec) h = by_shown s a b (st.state_update s spec)
call-alike s a b (call.StateDelete id) h = by_shown s a b (st.state_delete s id)
call-alike s a b (call.StateGet id) h = by_shown s a b (st.state_get s id)
call-alike s a b (call.StateDeleteAll filter) h = by_shown s a b (st.state_deleteall s filter)
call-alike s a b (call.StateList filter) h = by_shown s a b (st.state_list s filter)
call-alike s a b (call.StateFlush proto) h = by_shown s a b (st.state_flush s proto)
call-alike s a b call.StateCount h = by_shown s a b (st.state_count s)
call-alike s a b (call.AllocSpi spec) h = by_shown s a b (st.alloc_spi s spec)
call-alike s a b (call.Flow flow) h = by_shown s a b (f.flow_rule s flow)
call-alike s a b (call.TryFlow flow) h = by_shown s a b (f.try_rule s flow)
call-alike s a b (call.Packet packet) h =
    by_state s a b reply.NoState (packet_at packet) (latest_match s.states (id_of_packet packet)) h
call-alike s a b (call.Output sid len) h = by_state s a b reply.Stale (output_at len) (find (has_sid sid) s.states) h
call-alike s a b (call.Tick given) h = by_time s a b given h

-- the own part of the state that was found
found-own : (s : Shown) (a b : List Own) (c : Call) → IsMachine (beside s a) → IsMachine (beside s b) → (o : Option Sa)
    → state_found (rule_of s c) ≡ o → IfSome o (λ x. own_in (beside s a) x ≡ own_in (beside s b) x)
    → IfSome o (λ x. own_in (by_rule (beside s a) (rule_of s c)).machine x ≡ own_in (by_rule (beside s b) (rule_of s c)).machine x)
found-own s a b c h k None is e = tt
found-own s a b c h k (Some x) is e =
    traffic-own (beside s a) (beside s b) c x h k (record { found = is; found_too = is; time = refl; own = e })

-- the own part of the state that a call is for
pub own-alike : (s : Shown) (a b : List Own) (c : Call) → IsMachine (beside s a) → IsMachine (beside s b) → TellTheSame s a b c
    → IfSome (state_found (rule_of s c))
    (λ x. own_in (by_rule (beside s a) (rule_of s c)).machine x ≡ own_in (by_rule (beside s b) (rule_of s c)).machine x)
own-alike s a b (call.Packet packet) h k e =
    found-own s a b (call.Packet packet) h k (latest_match s.states (id_of_packet packet)) refl e
own-alike s a b (call.Output sid len) h k e = found-own s a b (call.Output sid len) h k (find (has_sid sid) s.states) refl e
own-alike s a b _ h k e = tt

-- own parts by their states, and by their places
uses-placed : (u v : Sa → Own) (states : List Sa) (a b : List Own) → AllZip (λ x o. o ≡ u x) states a → AllZip (λ x o. o ≡ v x) states b
    → All (λ x. (u x).first_use ≡ (v x).first_use) states → AreUsedAlike a b
uses-placed u v [] [] [] h k e = tt
uses-placed u v [] [] (q ∷ b) h k e = absurd k
uses-placed u v [] (o ∷ a) b h k e = absurd h
uses-placed u v (x ∷ states) [] b h k e = absurd h
uses-placed u v (x ∷ states) (o ∷ a) [] h k e = absurd k
uses-placed u v (x ∷ states) (o ∷ a) (q ∷ b) h k e =
    let same = All-head (λ y. (u y).first_use ≡ (v y).first_use) x states e in (
      ap (λ (w : Own). w.first_use) h.0 ∙ same ∙ ap (λ (w : Own). w.first_use) (sym k.0),
      uses-placed u v states a b h.1 k.1 (All-tail (λ y. (u y).first_use ≡ (v y).first_use) x states e),
    )

-- where each state's own part says the same of its first use
pub uses-alike : (s : Shown) (a b : List Own) → IsMachine (beside s a) → IsMachine (beside s b)
    → All (λ x. (own_in (beside s a) x).first_use ≡ (own_in (beside s b) x).first_use) s.states → AreUsedAlike a b
uses-alike s a b h k e =
    uses-placed (own_in (beside s a)) (own_in (beside s b)) s.states a b
    (own-beside (beside s a) h) (own-beside (beside s b) k) e
