-- A call that is answered Full is for no state: no packet and no output is.
use Rattle.std.proofs.Common.{◌≡◌, ℕ, Bool, true, false, true≢false, not, ◌==◌, Some, None, Option, refl, sym, ap, ◌∙◌, cond}
use Rattle.xf_types.specs.declared.call.Call.{Call}
use Rattle.xf_types.specs.declared.call.Call.TheVariants as call
use Rattle.xf_types.specs.declared.call.Packet.{Packet}
use Rattle.xf_types.specs.declared.call.Reply.{Reply}
use Rattle.xf_types.specs.declared.call.Reply.TheVariants as reply
use Rattle.xf_types.specs.declared.state.Sa.{Sa}
use Rattle.xf_types.specs.Machine.{Machine, Own}
use Rattle.xf_types.specs.StateList.{has_sid, latest_match}
use Rattle.xf_types.specs.OwnParts.{own_in}
use Rattle.xf_types.specs.OneState.{on_found}
use Rattle.xf_types.specs.Replay.{Freshness, Fresh, Zero, Old, Seen, replay_check}
use Rattle.xf_types.specs.Lifetime.{Verdict, Fine, Soft, Hard}
use Rattle.xf_types.specs.TrafficRules.{Treated, packet_at, output_at, id_of_packet, by_integrity, by_window, by_number, within_limits, verdict_at, packet_number, sent_or_overflow, last_number}
use Rattle.xf_types.specs.Steps.{step, rule_of}
use Rattle.xf_types.specs.Moves.{state_found}
use Rattle.std.specs.Prelude.{find}

abbrev is_full : Reply → Bool
is_full (reply.Full live waiting) = true
is_full _ = false

abbrev NotFull : Treated → Type 0
NotFull t = is_full t.reply ≡ false

either-way : (b : Bool) (t u : Treated) → NotFull t → NotFull u → NotFull (cond b t u)
either-way true t u h k = h
either-way false t u h k = k

limits-answer : (x : Sa) (v : Verdict) (rest : Bool → Treated) → ((soft : Bool) → NotFull (rest soft)) → NotFull (within_limits x v rest)
limits-answer x Hard rest h = refl
limits-answer x Soft rest h = h (not x.dying)
limits-answer x Fine rest h = h false

integrity-answer : (now : ℕ) (x : Sa) (own : Own) (p : Packet) (n : ℕ) (soft : Bool) → NotFull (by_integrity now x own p n soft)
integrity-answer now x own p n soft = either-way p.icv_ok _ _ refl refl

window-answer : (now : ℕ) (x : Sa) (own : Own) (p : Packet) (n : ℕ) (f : Freshness) → NotFull (by_window now x own p n f)
window-answer now x own p n Zero = refl
window-answer now x own p n Old = refl
window-answer now x own p n Seen = refl
window-answer now x own p n Fresh = limits-answer x (verdict_at now x own) (by_integrity now x own p n) (integrity-answer now x own p n)

number-answer : (now : ℕ) (x : Sa) (own : Own) (p : Packet) (o : Option ℕ) → NotFull (by_number now x own p o)
number-answer now x own p None = refl
number-answer now x own p (Some n) = window-answer now x own p n (replay_check x.spec.window own.accepted n)

packet-answer : (p : Packet) (now : ℕ) (x : Sa) (own : Own) → NotFull (packet_at p now x own)
packet-answer p now x own = either-way x.larval _ _ refl (number-answer now x own p (packet_number x own p.seq))

output-answer : (len now : ℕ) (x : Sa) (own : Own) → NotFull (output_at len now x own)
output-answer len now x own = limits-answer x (verdict_at now x own) (sent_or_overflow now x own len) (λ soft. either-way (own.sent == last_number x) _ _ refl refl)

found-answer : (m : Machine) (missing : Reply) (treat : ℕ → Sa → Own → Treated) (o : Option Sa) → is_full missing ≡ false
    → ((now : ℕ) (x : Sa) (own : Own) → NotFull (treat now x own)) → is_full (on_found m missing treat o).reply ≡ false
found-answer m missing treat None h k = h
found-answer m missing treat (Some x) h k = k m.shown.time x (own_in m x)

-- so what is answered Full is for none
pub full-none : (m : Machine) (c : Call) (live : ℕ) → (step m c).reply ≡ reply.Full live 0 → state_found (rule_of m.shown c) ≡ None
full-none m (call.Packet p) live e =
    absurd (true≢false (sym (ap is_full e) ∙ found-answer m reply.NoState (packet_at p) (latest_match m.shown.states (id_of_packet p)) refl (packet-answer p)))
full-none m (call.Output sid len) live e =
    absurd (true≢false (sym (ap is_full e) ∙ found-answer m reply.Stale (output_at len) (find (has_sid sid) m.shown.states) refl (output-answer len)))
full-none m _ live e = refl
