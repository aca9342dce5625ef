-- What a flow comes to.
use Rattle.std.proofs.Common.{arith, length, ◌<◌, ◌≡◌, ◌≢◌, ℕ, true, false, cond, refl, ap, sym, ◌∙◌, subst}
use Rattle.std.specs.Prelude.{Option, None, Some}
use Rattle.std.proofs.lemmas.Bool.Decides.{nat_tests}
use Rattle.xf_types.specs.declared.network.Addr.{Addr}
use Rattle.xf_types.specs.declared.network.Flow.{Flow}
use Rattle.xf_types.specs.declared.policy.Action.{Action}
use Rattle.xf_types.specs.declared.policy.Action.TheVariants.{Allow, Block}
use Rattle.xf_types.specs.declared.policy.Policy.{Policy}
use Rattle.xf_types.specs.declared.policy.Template.{Template}
use Rattle.xf_types.specs.declared.state.SaSpec.{SaSpec}
use Rattle.xf_types.specs.declared.call.Reply.{Reply}
use Rattle.xf_types.specs.declared.call.Reply.TheVariants.{NoMemory, FlowNone, Acquire}
use Rattle.xf_types.specs.Changes.{Answer, answer, applied, machine_after, stays, LeaveThen}
use Rattle.xf_types.specs.Counters.{next_in}
use Rattle.xf_types.specs.FlowRules.{WantAnswer, acquired, acquired_spec, by_action, by_policy, flow_answer, free_seq, last_seq, resolved}
use Rattle.xf_types.specs.History.{is_contended}
use Rattle.xf_types.specs.Machine.{Machine, Shown, outcome}
use Rattle.xf_types.specs.PolicyList.{first_policy}
use Rattle.xf_types.specs.Resolution.{Resolution, Through, Waits, Wants}
use Rattle.xf_types.specs.StateList.{is_none}
use Rattle.xf_types.specs.StateRules.{is_full, full_of_states}
use Rattle.xf_plain.specs.Wanted.{acquired_as}
use Rattle.xf_plain.proofs.Packets.{IsSettled}

-- a template that wants a state
pub wants-answer : (s : Shown) (flow : Flow) (p : Policy) (t : Template) (place : ℕ) (src dst : Addr) (wants : Policy → WantAnswer)
    → first_policy s.policies flow ≡ Some p → p.spec.action ≡ Allow → Wants t place src dst ≡ resolved s flow p
    → by_policy s flow wants (first_policy s.policies flow) ≡ wants p t place src dst
wants-answer s flow p t place src dst wants found allow is =
    ap (by_policy s flow wants) found ∙ ap (by_action s flow p (wants p)) allow ∙ ap (flow_answer p (wants p)) (sym is)

-- the state that is asked for is acquired
pub acquires : (s : Shown) (p : Policy) (t : Template) (src dst : Addr) (spec : SaSpec)
    → ((seq : ℕ) → record spec { seq = seq } ≡ acquired_spec p t src dst seq) → acquired_as s spec ≡ acquired s p t src dst
acquires s p t src dst spec asked =
    ap (λ (sp : SaSpec). cond (is_full s) (full_of_states s)
    (answer (Acquire (free_seq s)) (LeaveThen (record s { next_seq = next_in last_seq (free_seq s) }) is_none (Some (record { spec = sp; larval = true })))))
    (asked (free_seq s))

-- an answer that no template makes
abbrev idle : Policy → WantAnswer
idle p t place src dst = stays FlowNone

settled-resolved : (p : Policy) (r : Resolution) → IsSettled (flow_answer p (idle p) r).reply
settled-resolved p (Through path) = record { memory = λ e. absurd cc; settled = refl }
settled-resolved p (Waits seq) = record { memory = λ e. absurd cc; settled = refl }
settled-resolved p (Wants t place src dst) = record { memory = λ e. absurd cc; settled = refl }

settled-action : (s : Shown) (flow : Flow) (p : Policy) (action : Action) → IsSettled (by_action s flow p (idle p) action).reply
settled-action s flow p Block = record { memory = λ e. absurd cc; settled = refl }
settled-action s flow p Allow = settled-resolved p (resolved s flow p)

settled-policy : (s : Shown) (flow : Flow) (o : Option Policy) → IsSettled (by_policy s flow idle o).reply
settled-policy s flow None = record { memory = λ e. absurd cc; settled = refl }
settled-policy s flow (Some p) = settled-action s flow p p.spec.action

-- a flow that has its answer has it from the lists
settled-asked : (s : Shown) (flow : Flow) (r : Reply)
    → ((wants : Policy → WantAnswer) → by_policy s flow wants (first_policy s.policies flow) ≡ stays r) → IsSettled r
settled-asked s flow r asked =
    subst IsSettled (ap (λ (a : Answer). a.reply) (asked idle)) (settled-policy s flow (first_policy s.policies flow))

pub memory-asked : (s : Shown) (flow : Flow) (r : Reply)
    → ((wants : Policy → WantAnswer) → by_policy s flow wants (first_policy s.policies flow) ≡ stays r) → r ≢ NoMemory
memory-asked s flow r asked = (settled-asked s flow r asked).memory

pub contended-asked : (s : Shown) (flow : Flow) (r : Reply)
    → ((wants : Policy → WantAnswer) → by_policy s flow wants (first_policy s.policies flow) ≡ stays r) → is_contended r ≡ false
contended-asked s flow r asked = (settled-asked s flow r asked).settled

-- ---- the larval state

not-full : (s : Shown) → length s.states < s.max_states → is_full s ≡ false
not-full s room = grind (arith, nat_tests, room)

-- a larval state was put with the first free number, and the counter goes on
pub acquired-put : (m : Machine) (wanted : SaSpec) (seq next : ℕ) → length m.shown.states < m.shown.max_states → seq ≡ free_seq m.shown
    → next ≡ next_in last_seq seq
    → (let n = machine_after m (LeaveThen m.shown is_none (Some (record { spec = record wanted { seq = seq }; larval = true }))) in
    outcome (Acquire seq) (record n { shown = record n.shown { next_seq = next } }) ≡ applied m (acquired_as m.shown wanted))
acquired-put m wanted seq next room is_seq is_next =
    let s = m.shown in
    let added : ℕ → ℕ → Answer =
    λ q k. answer (Acquire q) (LeaveThen (record s { next_seq = k }) is_none (Some (record { spec = record wanted { seq = q }; larval = true })))
    in
    ap (λ k. applied m (added seq k)) is_next ∙ ap (λ q. applied m (added q (next_in last_seq q))) is_seq
    ∙ ap (λ b. applied m (cond b (full_of_states s) (added (free_seq s) (next_in last_seq (free_seq s))))) (sym (not-full s room))
