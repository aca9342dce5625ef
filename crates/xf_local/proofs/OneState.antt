-- The machine that has one state alone, step by step.
use Rattle.std.proofs.Common.{◌≡◌, ℕ, max, Bool, true, false, not, cond, List, [], ◌∷◌, map, refl, ap, sym, ◌∙◌}
use Rattle.std.specs.Prelude.{◌==◌, Option, None, Some, option_to_list}
use Rattle.std.specs.List.{cons_option}
use Rattle.std.proofs.lemmas.Bool.{eq-eqb}
use Rattle.xf_types.specs.declared.state.Sa.{Sa}
use Rattle.xf_types.specs.declared.call.Call.TheVariants.{Tick}
use Rattle.xf_types.specs.declared.call.Event.{Event}
use Rattle.xf_types.specs.declared.call.Packet.{Packet}
use Rattle.xf_types.specs.declared.call.Reply.TheVariants.{NoState, Stale, Ticked}
use Rattle.xf_types.specs.Machine.{Own, Outcome, outcome}
use Rattle.xf_types.specs.OneState.{on_state, on_found, put_back}
use Rattle.xf_types.specs.OwnParts.{own_in}
use Rattle.xf_types.specs.StateList.{has_id}
use Rattle.xf_types.specs.Steps.{step}
use Rattle.xf_types.specs.TickRules.{state_ends, state_event, state_later, own_part}
use Rattle.xf_types.specs.TrafficRules.{Fate, Same, Ends, Becomes, Treated, id_of_packet, packet_at, output_at}
use Rattle.xf_held.specs.View.{HeldView, held, fated, is_end}
use Rattle.xf_held.specs.Traffic.{Does}
use Rattle.xf_held.specs.declared.traffic.Treatment.{Treatment}
use Rattle.xf_local.specs.View.{LiveView, Dead, Live, aged, event_of, live_later}
use Rattle.xf_local.specs.Alone.{Traffic, machine_of, step_of, first_at, left_in, Inward, Outward}
use Rattle.xf_local.specs.Answering.{Treats}
use Rattle.xf_local.specs.Laws.{machine_after}

-- the state's id is its own
sid_same : (n : ℕ) → (n == n) ≡ true
sid_same n = eq-eqb n n refl

-- its own part
own_in-alone : (l : LiveView) → own_in (machine_of l) l.state ≡ l.own
own_in-alone l = rw (sid_same l.state.sid) refl

-- what becomes of it
put_back-alone : (l : LiveView) (f : Fate) → put_back (machine_of l) l.state f ≡ machine_after l f
put_back-alone l Same = refl
put_back-alone l Ends = rw (sid_same l.state.sid) refl
put_back-alone l (Becomes soft own) = rw (sid_same l.state.sid) refl

-- a rule of the state
on_state-alone : (l : LiveView) (rule : ℕ → Sa → Own → Treated)
    → on_state (machine_of l) l.state rule
    ≡ outcome (rule l.time l.state l.own).reply (machine_after l (rule l.time l.state l.own).fate)
on_state-alone l rule =
    ap (λ (o : Own). outcome (rule l.time l.state o).reply (put_back (machine_of l) l.state (rule l.time l.state o).fate)) (own_in-alone l)
    ∙ ap (outcome (rule l.time l.state l.own).reply) (put_back-alone l (rule l.time l.state l.own).fate)

pub packet-named : (l : LiveView) (p : Packet) → has_id (id_of_packet p) l.state ≡ true
    → step_of l (Inward p)
    ≡ outcome (packet_at p l.time l.state l.own).reply (machine_after l (packet_at p l.time l.state l.own).fate)
packet-named l p named =
    ap (on_found (machine_of l) NoState (packet_at p)) (ap (λ b. cond b (Some l.state) None) named)
    ∙ on_state-alone l (packet_at p)

pub packet-other : (l : LiveView) (p : Packet) → has_id (id_of_packet p) l.state ≡ false
    → step_of l (Inward p) ≡ outcome NoState (machine_of l)
packet-other l p other =
    ap (on_found (machine_of l) NoState (packet_at p)) (ap (λ b. cond b (Some l.state) None) other)

pub output-alone : (l : LiveView) (len : ℕ)
    → step_of l (Outward len)
    ≡ outcome (output_at len l.time l.state l.own).reply (machine_after l (output_at len l.time l.state l.own).fate)
output-alone l len =
    ap (on_found (machine_of l) Stale (output_at len)) (ap (λ b. cond b (Some l.state) None) (sid_same l.state.sid))
    ∙ on_state-alone l (output_at len)

-- ---- what is left of it

left-after : (l : LiveView) (f : Fate) (ends : Bool) (new : HeldView) → ends ≡ is_end f → new ≡ fated (held l.state l.own) f
    → left_in (machine_after l f) ≡ cond ends Dead (Live (record { state = new.state; own = new.own; time = l.time }))
left-after l Same ends new is_ends is_new =
    sym (λ i. cond (is_ends i) Dead (Live (record { state = (is_new i).state; own = (is_new i).own; time = l.time })))
left-after l Ends ends new is_ends is_new =
    sym (λ i. cond (is_ends i) Dead (Live (record { state = (is_new i).state; own = (is_new i).own; time = l.time })))
left-after l (Becomes soft own) ends new is_ends is_new =
    sym (λ i. cond (is_ends i) Dead (Live (record { state = (is_new i).state; own = (is_new i).own; time = l.time })))

treats-by : (did : Treatment) (l : LiveView) (new : HeldView) (t : Traffic) (rule : Treated)
    → step_of l t ≡ outcome rule.reply (machine_after l rule.fate) → Does did (held l.state l.own) new rule
    → Treats did l (record { state = new.state; own = new.own; time = l.time }) t
treats-by did l new t rule step does =
    record {
      reply = does.reply ∙ ap (λ (o : Outcome). o.reply) (sym step);
      left = ap (λ (o : Outcome). left_in o.machine) step ∙ left-after l rule.fate did.ends new does.ends does.state;
    }

pub packet-treats : (did : Treatment) (l : LiveView) (new : HeldView) (p : Packet) → has_id (id_of_packet p) l.state ≡ true
    → Does did (held l.state l.own) new (packet_at p l.time l.state l.own)
    → Treats did l (record { state = new.state; own = new.own; time = l.time }) (Inward p)
packet-treats did l new p named does =
    treats-by did l new (Inward p) (packet_at p l.time l.state l.own) (packet-named l p named) does

pub other-treats : (l : LiveView) (p : Packet) → has_id (id_of_packet p) l.state ≡ false
    → Treats (record { reply = NoState; ends = false }) l l (Inward p)
other-treats l p other =
    record {
      reply = ap (λ (o : Outcome). o.reply) (sym (packet-other l p other));
      left = ap (λ (o : Outcome). left_in o.machine) (packet-other l p other);
    }

pub output-treats : (did : Treatment) (l : LiveView) (new : HeldView) (len : ℕ)
    → Does did (held l.state l.own) new (output_at len l.time l.state l.own)
    → Treats did l (record { state = new.state; own = new.own; time = l.time }) (Outward len)
output-treats did l new len does =
    treats-by did l new (Outward len) (output_at len l.time l.state l.own) (output-alone l len) does

-- ---- the passing of time

pub tick-event : (l : LiveView) (given : ℕ)
    → (step (machine_of l) (Tick given)).reply ≡ Ticked (max l.time given) (option_to_list (event_of (max l.time given) (Live l)))
tick-event l given =
    elim (state_event (max l.time given) (l.state, l.own))
    as (λ (e : Option Event). Ticked (max l.time given) (cons_option e []) ≡ Ticked (max l.time given) (option_to_list e))
    [ None ↦ refl | Some e ↦ refl ]

pub tick-aged : (l : LiveView) (given : ℕ)
    → left_in (step (machine_of l) (Tick given)).machine ≡ aged (max l.time given) (Live l)
tick-aged l given =
    let now = max l.time given in
    let pairs : List (Sa × Own) = (l.state, l.own) ∷ [] in
    elim (state_ends now (l.state, l.own))
    as (λ b. first_at now (map (state_later now) (cond (not b) pairs [])) (map own_part (cond (not b) pairs []))
    ≡ cond b Dead (Live (live_later now l)))
    [ true ↦ refl | false ↦ refl ]
