-- What a reply tells: of the state's fate, and that a call may give it.
use Rattle.std.proofs.Common.{arith, ℕ, zero, suc, ◌≡◌, ◌+◌, Bool, true, false, not, refl, cond, ap, sym, ◌∙◌, subst, Option, None, Some, ◌==◌, List, nat_lt, length, MatchBool}
use Rattle.std.proofs.lemmas.Bool.{lt-ltb}
use Rattle.xf_types.specs.declared.state.Sa.{Sa}
use Rattle.xf_types.specs.declared.call.Call.{Call}
use Rattle.xf_types.specs.declared.call.Packet.{Packet}
use Rattle.xf_types.specs.declared.call.Reply.{Reply}
use Rattle.xf_types.specs.declared.call.Reply.TheVariants as reply
use Rattle.xf_types.specs.Machine.{Machine, Own}
use Rattle.xf_types.specs.Moves.{says_soft}
use Rattle.xf_types.specs.Lifetime.{Verdict, Fine, Soft, Hard}
use Rattle.xf_types.specs.Replay.{Freshness, Fresh, Zero, Old, Seen, replay_check, top, accepted_with}
use Rattle.xf_types.specs.TrafficRules.{Fate, Same, Ends, Becomes, Treated, treated, packet_at, output_at, within_limits, by_integrity, by_window, by_number, packet_number, sent_or_overflow, verdict_at, last_number, charged}
use Rattle.xf_types.specs.Steps.{step}
use Rattle.xf_types.specs.History.{is_exception, adds_policy, with_policies, with_states}
use Rattle.xf_laws.proofs.StepLemmas.{step-ours}
use Rattle.xf_rows.specs.declared.layout.Layout.{Layout}
use Rattle.xf_rows.specs.Values.{Beside}
use Rattle.xf_rows.specs.Stands.{Stands}
use Rattle.xf_rows.specs.Fates.{Tells, says_ended, entries_told, entries_fated}
use Rattle.xf_rows.specs.Replies.{IsReplyOf, IsShort, Answers}

-- the reply of what is treated so tells its fate
abbrev pub TellsFate : Treated → Type 0
TellsFate t = Tells t.reply t.fate

tells_integrity : (now : ℕ) (s : Sa) (own : Own) (p : Packet) (n : ℕ) (soft : Bool) → TellsFate (by_integrity now s own p n soft)
tells_integrity now s own p n soft =
    elim p.icv_ok as (λ b. TellsFate (cond b
    (treated (reply.Accepted (top (accepted_with s.spec.window own.accepted n)) soft) (Becomes soft (charged p.len now (record own { accepted = accepted_with s.spec.window own.accepted n }))))
    (treated (reply.BadIcv soft) (Becomes soft own)))) [ true ↦ (refl, refl) | false ↦ (refl, refl) ]

tells_limits : (now : ℕ) (s : Sa) (own : Own) (p : Packet) (n : ℕ) (v : Verdict) → TellsFate (within_limits s v (by_integrity now s own p n))
tells_limits now s own p n Hard = refl
tells_limits now s own p n Soft = tells_integrity now s own p n (not s.dying)
tells_limits now s own p n Fine = tells_integrity now s own p n false

tells_window : (now : ℕ) (s : Sa) (own : Own) (p : Packet) (n : ℕ) (f : Freshness) → TellsFate (by_window now s own p n f)
tells_window now s own p n Zero = (refl, refl)
tells_window now s own p n Old = (refl, refl)
tells_window now s own p n Seen = (refl, refl)
tells_window now s own p n Fresh = tells_limits now s own p n (verdict_at now s own)

tells_number : (now : ℕ) (s : Sa) (own : Own) (p : Packet) (number : Option ℕ) → TellsFate (by_number now s own p number)
tells_number now s own p None = (refl, refl)
tells_number now s own p (Some n) = tells_window now s own p n (replay_check s.spec.window own.accepted n)

pub tells_packet : (p : Packet) (now : ℕ) (s : Sa) (own : Own) → TellsFate (packet_at p now s own)
tells_packet p now s own =
    elim s.larval as (λ b. TellsFate (cond b (treated reply.Larval Same) (by_number now s own p (packet_number s own p.seq)))) [
      | true ↦ (refl, refl)
      | false ↦ tells_number now s own p (packet_number s own p.seq)
    ]

tells_sent : (now : ℕ) (s : Sa) (own : Own) (len : ℕ) (soft : Bool) → TellsFate (sent_or_overflow now s own len soft)
tells_sent now s own len soft =
    elim (own.sent == last_number s) as (λ b. TellsFate (cond b
    (treated (reply.Overflow soft) (Becomes soft own))
    (treated (reply.Sent s.spec.proto s.spec.spi (own.sent + 1) soft) (Becomes soft (charged len now (record own { sent = own.sent + 1 })))))) [ true ↦ (refl, refl) | false ↦ (refl, refl) ]

tells_sending : (now : ℕ) (s : Sa) (own : Own) (len : ℕ) (v : Verdict) → TellsFate (within_limits s v (sent_or_overflow now s own len))
tells_sending now s own len Hard = refl
tells_sending now s own len Soft = tells_sent now s own len (not s.dying)
tells_sending now s own len Fine = tells_sent now s own len false

pub tells_output : (len now : ℕ) (s : Sa) (own : Own) → TellsFate (output_at len now s own)
tells_output len now s own = tells_sending now s own len (verdict_at now s own)

-- words that follow the reply have the entries after the fate
pub told_entries : (front : List (ℕ × Sa)) (slot : ℕ) (s : Sa) (back : List (ℕ × Sa)) (r : Reply) (f : Fate) → Tells r f
    → entries_told (says_ended r) (says_soft r) front slot s back ≡ entries_fated front slot s back f
told_entries front slot s back r Same = λ tells.
    ap (λ (b : Bool). entries_told b (says_soft r) front slot s back) tells.0 ∙ ap (λ (b : Bool). entries_told false b front slot s back) tells.1
told_entries front slot s back r Ends = λ tells. ap (λ (b : Bool). entries_told b (says_soft r) front slot s back) tells
told_entries front slot s back r (Becomes soft own) = λ tells.
    ap (λ (b : Bool). entries_told b (says_soft r) front slot s back) tells.0 ∙ ap (λ (b : Bool). entries_told false b front slot s back) tells.1

-- ---- the replies that a call may give

-- the machine's own is one
plain_reply : (m : Machine) (c : Call) (r : Reply) → is_exception r ≡ false → r ≡ (step m c).reply → IsReplyOf m c r
plain_reply m c (reply.Again tries) = λ ours e. absurd (cc)
plain_reply m c reply.NoMemory = λ ours e. tt
plain_reply m c (reply.Full live zero) = λ ours e. e
plain_reply m c (reply.Full live (suc waiting)) = λ ours e.
    let some : nat_lt 0 (suc waiting) ≡ true = lt-ltb 0 (suc waiting) (omega arith) in
    absurd (cc)
plain_reply m c r = λ ours e. e

pub answers : (layout : Layout) (i : List ℕ) (b : Beside) (m : Machine) (c : Call) (r : Reply) → r ≡ (step m c).reply
    → Stands layout i b (step m c).machine → Answers layout i b m c r
answers layout i b m c r e st =
    let ours : is_exception r ≡ false = ap (λ (x : Reply). is_exception x) e ∙ step-ours m c in
    record {
      is_reply = plain_reply m c r ours e;
      stands = subst (λ (t : Bool). Stands layout i b (cond t m (step m c).machine)) (sym ours) st;
    }

-- so is one that leaves the machine
pub excused : (layout : Layout) (i : List ℕ) (b : Beside) (m : Machine) (c : Call) (r : Reply) → is_exception r ≡ true → IsReplyOf m c r
    → Stands layout i b m → Answers layout i b m c r
excused layout i b m c r theirs is st = record {
  is_reply = is;
  stands = subst (λ (t : Bool). Stands layout i b (cond t m (step m c).machine)) (sym theirs) st;
}

-- so is that a list is full while slots wait
pub full_policies : (m : Machine) (c : Call) (live waiting : ℕ) → adds_policy c ≡ true → live ≡ length m.shown.policies → live + waiting ≡ m.shown.max_policies
    → reply.Full live 0 ≡ (step (with_policies m live) c).reply → IsReplyOf m c (reply.Full live waiting)
full_policies m c live zero = λ adds is sum full.
    let all : live ≡ m.shown.max_policies = omega (arith, sum) in
    full ∙ ap (λ (n : ℕ). (step (with_policies m n) c).reply) all
full_policies m c live (suc waiting) = λ adds is sum full.
    subst (λ (b : Bool). MatchBool b
    (IsShort live (suc waiting) (length m.shown.policies) m.shown.max_policies (with_policies m (length m.shown.policies)) c)
    (IsShort live (suc waiting) (length m.shown.states) m.shown.max_states (with_states m (length m.shown.states)) c)) (sym adds)
    (record { live_is = is; sum_is = sum; full = full ∙ ap (λ (n : ℕ). (step (with_policies m n) c).reply) is })

pub full_states : (m : Machine) (c : Call) (live waiting : ℕ) → adds_policy c ≡ false → live ≡ length m.shown.states → live + waiting ≡ m.shown.max_states
    → reply.Full live 0 ≡ (step (with_states m live) c).reply → IsReplyOf m c (reply.Full live waiting)
full_states m c live zero = λ adds is sum full.
    let all : live ≡ m.shown.max_states = omega (arith, sum) in
    full ∙ ap (λ (n : ℕ). (step (with_states m n) c).reply) all
full_states m c live (suc waiting) = λ adds is sum full.
    subst (λ (b : Bool). MatchBool b
    (IsShort live (suc waiting) (length m.shown.policies) m.shown.max_policies (with_policies m (length m.shown.policies)) c)
    (IsShort live (suc waiting) (length m.shown.states) m.shown.max_states (with_states m (length m.shown.states)) c)) (sym adds)
    (record { live_is = is; sum_is = sum; full = full ∙ ap (λ (n : ℕ). (step (with_states m n) c).reply) is })
