-- What a call leaves of the own parts.
use Rattle.std.proofs.Common.{arith, ◌≡◌, ℕ, ◌<◌, true, false, List, refl, ap, sym, ◌∙◌, subst, inl, inr, Option, None, Some, find, Contains}
use Rattle.std.proofs.lemmas.Bool.{cases_Bool, cond-true, cond-false}
use Rattle.std.proofs.lemmas.Slice.Zip.{AllZip-map}
use Rattle.std.specs.List.{AllZip}
use Rattle.xf_types.specs.declared.state.Sa.{Sa}
use Rattle.xf_types.specs.declared.call.Call.{Call}
use Rattle.xf_types.specs.declared.call.Call.TheVariants as call
use Rattle.xf_types.specs.declared.call.Receipt.{Receipt}
use Rattle.xf_types.specs.declared.call.Reply.{Reply}
use Rattle.xf_types.specs.declared.call.Reply.TheVariants as reply
use Rattle.xf_types.specs.Machine.{Machine, Shown, Own}
use Rattle.xf_types.specs.StateList.{latest_match, has_sid, has_id}
use Rattle.xf_types.specs.OwnParts.{new_own, own_of, own_in}
use Rattle.xf_types.specs.TrafficRules.{Treated, Fate, Same, Ends, Becomes, packet_at, output_at, id_of_packet}
use Rattle.xf_types.specs.OneState.{on_found}
use Rattle.xf_types.specs.Steps.{step, rule_of}
use Rattle.xf_types.specs.Moves.{is_moving, state_found}
use Rattle.xf_types.specs.History.{Moment, MayReply, is_exception, machine_next}
use Rattle.xf_types.specs.IsMachine.{IsMachine}
use Rattle.xf_laws.specs.LeaveLaws.{is_listed, IsAnother, IsLeftBut}
use Rattle.xf_laws.proofs.Lasting.{Steady, HoldsBy}
use Rattle.xf_laws.proofs.BesideLemmas.{zip-weaker, IsFound, zip-found, own-beside, own_of-listed, own_of-missing, listed-given}
use Rattle.xf_laws.proofs.TrafficKeepLemmas.{found-contained, last-contained, IsFateOf, put_back-kept}
use Rattle.xf_laws.proofs.MachineLemmas.{KeepsTraffic, step-steady}
use Rattle.xf_laws.proofs.FoldLemmas.{ruled}
use Rattle.xf_laws.proofs.StepLemmas.{step-still}

-- an own part under a state id that was given: that of another state than this one is what it was
abbrev IsKept : Machine → Option Sa → ℕ → Own → Type 0
IsKept m one sid o = sid < m.shown.next_sid → IsAnother one sid → (none : Own) → o ≡ own_of sid m.shown.states m.own none

-- so are all
abbrev AreKept : Machine → Option Sa → Sa → Own → Type 0
AreKept m one x o = IsKept m one x.sid o

-- this asks a record's id alone, and a new state's isn't given yet
kept-steady : (m : Machine) (one : Option Sa) → Steady (AreKept m one) m.shown.next_sid
kept-steady m one =
    record {
      records = λ x y o sid window h. subst (λ (n : ℕ). IsKept m one n o) (sym sid) h;
      begins = λ x next given. absurd (omega arith);
    }

-- it holds at first
kept-now : (m : Machine) (one : Option Sa) → IsMachine m → HoldsBy (AreKept m one) m
kept-now m one h =
    record {
      shown = h.shown;
      own =
          zip-weaker (λ x. x.sid < m.shown.next_sid) (IsFound m.shown.states m.own) (AreKept m one)
          (λ x o below found given another. found) m.shown.states m.own h.shown.states.sids_given
          (zip-found m.shown.states m.own h.shown.states.sids h.own);
    }

-- whatever becomes of the one
any-fate : (m : Machine) (x : Sa) (fate : Fate) → IsFateOf (AreKept m (Some x)) m.shown.next_sid (kept-steady m (Some x)) x fate
any-fate m x Same = tt
any-fate m x Ends = tt
any-fate m x (Becomes soft own) = λ given another none. absurd (another refl)

-- after a rule of the one that was found
found-kept : (m : Machine) (missing : Reply) (treat : ℕ → Sa → Own → Treated) → IsMachine m → (one : Option Sa)
    → ((x : Sa) → one ≡ Some x → Contains m.shown.states x) → HoldsBy (AreKept m one) (on_found m missing treat one).machine
found-kept m missing treat h None among = kept-now m None h
found-kept m missing treat h (Some x) among =
    let fate : Fate = (treat m.shown.time x (own_in m x)).fate in
    put_back-kept (AreKept m (Some x)) m.shown.next_sid (kept-steady m (Some x)) m x fate (kept-now m (Some x) h) (among x refl)
    (any-fate m x fate)

-- after a packet or an output
traffic-kept : (m : Machine) (c : Call) → IsMachine m → KeepsTraffic (AreKept m (state_found (rule_of m.shown c))) m c
traffic-kept m (call.Packet packet) h =
    found-kept m reply.NoState (packet_at packet) h (latest_match m.shown.states (id_of_packet packet))
    (last-contained (has_id (id_of_packet packet)) m.shown.states)
traffic-kept m (call.Output sid len) h =
    found-kept m reply.Stale (output_at len) h (find (has_sid sid) m.shown.states) (found-contained (has_sid sid) m.shown.states)
traffic-kept m _ h = tt

-- and so after each call
step-others : (m : Machine) (c : Call) → IsMachine m
    → AllZip (AreKept m (state_found (rule_of m.shown c))) (step m c).machine.shown.states (step m c).machine.own
step-others m c h =
    let one = state_found (rule_of m.shown c) in
    (step-steady (AreKept m one) m c (traffic-kept m c h)
    (record { shown = h.shown; own = (kept-now m one h).own; steady = kept-steady m one })).own

-- each other state that was listed and still is keeps its own part
pub call-moved : (m : Machine) (c : Call) (sid : ℕ) (none : Own) → IsMachine m → IsAnother (state_found (rule_of m.shown c)) sid
    → is_listed sid m.shown.states ≡ true → is_listed sid (step m c).machine.shown.states ≡ true
    → own_of sid (step m c).machine.shown.states (step m c).machine.own none ≡ own_of sid m.shown.states m.own none
call-moved m c sid none h another before after =
    let next = (step m c).machine in
    let one = state_found (rule_of m.shown c) in
    let given : sid < m.shown.next_sid = listed-given sid m.shown.next_sid m.shown.states h.shown.states.sids_given before in
    let v : Own = own_of sid m.shown.states m.own none in
    own_of-listed sid v next.shown.states next.own none
    (zip-weaker (λ x. Unit {0}) (AreKept m one) (λ x o. x.sid ≡ sid → o ≡ v)
    (λ x o all kept same. subst (λ (n : ℕ). IsKept m one n o) same kept given another none) next.shown.states next.own
    (λ k d within. tt) (step-others m c h))
    after

-- a reply that doesn't move leaves each other own part
still-own : (m : Machine) (c : Call) (sid : ℕ) (none : Own) → IsMachine m → is_moving (step m c).reply ≡ false
    → IsAnother (state_found (rule_of m.shown c)) sid
    → own_of sid (step m c).machine.shown.states (step m c).machine.own none ≡ own_of sid m.shown.states m.own none
still-own m c sid none h still another =
    let next = (step m c).machine in
    let same : is_listed sid next.shown.states ≡ is_listed sid m.shown.states =
    ap (λ (s : Shown). is_listed sid s.states) (step-still m c still) in
    elim (cases_Bool (is_listed sid m.shown.states)) [
      | inl here ↦ call-moved m c sid none h another here (same ∙ here)
      | inr missing ↦
          own_of-missing sid next.shown.states next.own none (same ∙ missing)
          ∙ sym (own_of-missing sid m.shown.states m.own none missing)
    ]

-- and what is shown
pub call-still : (m : Machine) (c : Call) → IsMachine m → is_moving (step m c).reply ≡ false
    → IsLeftBut (state_found (rule_of m.shown c)) m (step m c).machine
call-still m c h still =
    record { shown = step-still m c still; own = λ sid none another. still-own m c sid none h still another }

-- two lists that stand alike beside the same states are one
own-one : (v : Sa → Own) (states : List Sa) (a b : List Own) → AllZip (λ x o. o ≡ v x) states a → AllZip (λ x o. o ≡ v x) states b → a ≡ b
own-one v states a b h k = AllZip-map v states a h ∙ sym (AllZip-map v states b k)

-- where it is for no state the own parts stay
own-whole : (m : Machine) (c : Call) (one : Option Sa) → IsMachine m → is_moving (step m c).reply ≡ false → one ≡ None
    → AllZip (AreKept m one) (step m c).machine.shown.states (step m c).machine.own → (step m c).machine.own ≡ m.own
own-whole m c (Some x) h still e kept = absurd cc
own-whole m c None h still e kept =
    let next = (step m c).machine in
    own-one (own_in m) m.shown.states next.own m.own
    (zip-weaker (λ x. x.sid < m.shown.next_sid) (AreKept m None) (λ x o. o ≡ own_in m x)
    (λ x o given kept_one. kept_one given tt (new_own x.spec)) m.shown.states next.own h.shown.states.sids_given
    (subst (λ (s : Shown). AllZip (AreKept m None) s.states next.own) (step-still m c still) kept))
    (own-beside m h)

-- and so does the machine
pub call-whole : (m : Machine) (c : Call) → IsMachine m → is_moving (step m c).reply ≡ false → state_found (rule_of m.shown c) ≡ None
    → (step m c).machine ≡ m
call-whole m c h still none =
    let own = own-whole m c (state_found (rule_of m.shown c)) h still none (step-others m c h) in
    let shown = step-still m c still in
    λ i. record { shown = shown i; own = own i }

-- the machine that stays is left
left-same : (one : Option Sa) (m : Machine) → IsLeftBut one m m
left-same one m = record { shown = refl; own = λ sid none another. refl }

-- each receipt that doesn't move
pub receipt-still : (t : Moment) (r : Receipt) → IsMachine t.machine → MayReply t r r.reply → is_moving r.reply ≡ false
    → IsLeftBut (state_found (rule_of t.machine.shown r.call)) t.machine (machine_next t.machine r)
receipt-still t r h may still =
    let m = t.machine in
    let one = state_found (rule_of m.shown r.call) in
    elim (ruled t r r.reply may) [
      | inl x ↦
          subst (IsLeftBut one m) (sym (cond-true (is_exception r.reply) m (step m r.call).machine x.outside)) (left-same one m)
      | inr x ↦
          subst (IsLeftBut one m) (sym (cond-false (is_exception r.reply) m (step m r.call).machine x.inside))
          (call-still m r.call h (ap is_moving (sym x.own) ∙ still))
    ]
