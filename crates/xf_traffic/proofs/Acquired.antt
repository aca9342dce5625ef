-- A larval state was acquired for a template, or there was no room for it.
use Rattle.std.proofs.Common.{ℕ, ◌≡◌, ◌<◌, Bool, true, false, List, [], length, refl, ap, sym, ◌∙◌, subst, cond, Option, None, Some, Result, Ok, Err}
use Rattle.std.specs.Prelude.{IfErr}
use Rattle.xf_types.specs.declared.call.Call.TheVariants as call
use Rattle.xf_types.specs.declared.call.Reply.{Reply}
use Rattle.xf_types.specs.declared.call.Reply.TheVariants as reply
use Rattle.xf_types.specs.declared.network.Addr.{Addr}
use Rattle.xf_types.specs.declared.network.Flow.{Flow}
use Rattle.xf_types.specs.declared.policy.Policy.{Policy}
use Rattle.xf_types.specs.declared.policy.Template.{Template}
use Rattle.xf_types.specs.declared.state.Sa.{Sa}
use Rattle.xf_types.specs.Changes.{Answer, Change, NewState, LeaveThen, answer, applied, machine_after, shown_after}
use Rattle.xf_types.specs.Counters.{next_in}
use Rattle.xf_types.specs.FlowRules.{acquired, acquired_spec, flow_rule, free_seq, last_seq}
use Rattle.xf_types.specs.History.{is_contended}
use Rattle.xf_types.specs.IsMachine.{IsMachine}
use Rattle.xf_types.specs.Machine.{Machine, Shown}
use Rattle.xf_types.specs.StateList.{is_none}
use Rattle.xf_types.specs.StateRules.{is_full, full_of_states}
use Rattle.xf_laws.proofs.MachineLemmas.{step-kept}
use Rattle.xf_image.specs.Frames.{Frame}
use Rattle.xf_sadidx.specs.Layout.{end_of, record_at}
use Rattle.xf_sad.specs.declared.faults.SadFault.{SadFault}
use Rattle.xf_sad.specs.declared.faults.SadFault.TheVariants.{Invalid, Exists, NoState, NoSpi, Full}
use Rattle.xf_sad.specs.Changes.{Comes, new_state, entries_but}
use Rattle.xf_sad.specs.Replies.{FaultIs, IsRoomFault, ReplyIs, fault_reply}
use Rattle.xf_sad.proofs.Found.{state_is}
use Rattle.xf_rows.specs.declared.layout.Layout.{Layout}
use Rattle.xf_rows.specs.Layouts.{Fits}
use Rattle.xf_rows.specs.Changes.{new_value}
use Rattle.xf_rows.specs.Replies.{Answers}
use Rattle.xf_rows.specs.Rows.{entries_in}
use Rattle.xf_rows.specs.Stands.{Stands}
use Rattle.xf_rows.specs.Values.{Beside, value_put}
use Rattle.xf_rows.proofs.Coming.{row_comes_by, acquire_acquires}
use Rattle.xf_rows.proofs.Telling.{answers}
use Rattle.xf_statecalls.specs.Windows.{value_of_new}
use Rattle.xf_statecalls.proofs.Refused.{refused}
use Rattle.xf_traffic.specs.declared.asked.Wanted.{Wanted}
use Rattle.xf_traffic.specs.Asked.{IsAnswered, IsWanted}
use Rattle.xf_traffic.specs.Larval.{HasLarval}
use Rattle.xf_traffic.proofs.Answered.{answered_is, acquires}
use Rattle.xf_traffic.proofs.Followed.{answers_same}

-- the state that is listed for it
abbrev pub larval_new : Shown → Policy → Template → Addr → Addr → NewState
larval_new s p t src dst = record { spec = acquired_spec p t src dst (free_seq s); larval = true }

-- The rule adds it, and tells its sequence number.
pub record Acquires (s : Shown) (p : Policy) (t : Template) (src dst : Addr) (new : NewState) : Type 0 where
  pub new_is : new ≡ larval_new s p t src dst
  pub reply_is : (acquired s p t src dst).reply ≡ reply.Acquire new.spec.seq

stays_not : (r : Reply) (sh : Shown) (leaves : Sa → Bool) (new : NewState) → (Rattle.xf_types.specs.Changes.stays r).change ≡ LeaveThen sh leaves (Some new) → ⊥
stays_not r sh leaves new e = cc

leave_new : (s sh : Shown) (l leaves : Sa → Bool) (x new : NewState) → LeaveThen s l (Some x) ≡ LeaveThen sh leaves (Some new) → new ≡ x
leave_new s sh l leaves x new e = cc

-- the answer where there may be room
by_room : Shown → Shown → NewState → Bool → Answer
by_room s t x b = cond b (full_of_states s) (answer (reply.Acquire x.spec.seq) (LeaveThen t is_none (Some x)))

-- It tells the state's sequence number.
record Tells (x new : NewState) (rule : Answer) : Type 0 where
  new_is : new ≡ x
  reply_is : rule.reply ≡ reply.Acquire new.spec.seq

room_tells : (s t : Shown) (x : NewState) (b : Bool) (sh : Shown) (leaves : Sa → Bool) (new : NewState)
    → (by_room s t x b).change ≡ LeaveThen sh leaves (Some new) → Tells x new (by_room s t x b)
unfolding by_room
room_tells s t x true sh leaves new e = absurd (stays_not (reply.Full (length s.states) 0) sh leaves new e)
room_tells s t x false sh leaves new e =
    let same : new ≡ x = leave_new t sh is_none leaves x new e in
    record { new_is = same; reply_is = ap (λ (n : NewState). reply.Acquire n.spec.seq) (sym same) }

pub acquires_new : (s : Shown) (p : Policy) (t : Template) (src dst : Addr) (sh : Shown) (leaves : Sa → Bool) (new : NewState)
    → (acquired s p t src dst).change ≡ LeaveThen sh leaves (Some new) → Acquires s p t src dst new
unfolding by_room
acquires_new s p t src dst sh leaves new e =
    let tells : Tells (larval_new s p t src dst) new (by_room s (record s { next_seq = next_in last_seq (free_seq s) }) (larval_new s p t src dst) (is_full s)) =
    room_tells s (record s { next_seq = next_in last_seq (free_seq s) }) (larval_new s p t src dst) (is_full s) sh leaves new e in
    record { new_is = tells.new_is; reply_is = tells.reply_is }

leave_shown : (s sh : Shown) (l leaves : Sa → Bool) (x new : NewState) → LeaveThen s l (Some x) ≡ LeaveThen sh leaves (Some new) → sh ≡ s
leave_shown s sh l leaves x new e = cc

room_shown : (s t : Shown) (x : NewState) (b : Bool) (sh : Shown) (leaves : Sa → Bool) (new : NewState)
    → (by_room s t x b).change ≡ LeaveThen sh leaves (Some new) → sh ≡ t
unfolding by_room
room_shown s t x true sh leaves new e = absurd (stays_not (reply.Full (length s.states) 0) sh leaves new e)
room_shown s t x false sh leaves new e = leave_shown t sh is_none leaves x new e

-- it has the next state id
pub acquires_sid : (s : Shown) (p : Policy) (t : Template) (src dst : Addr) (sh : Shown) (leaves : Sa → Bool) (new : NewState)
    → (acquired s p t src dst).change ≡ LeaveThen sh leaves (Some new) → sh.next_sid ≡ s.next_sid
unfolding by_room
acquires_sid s p t src dst sh leaves new e =
    ap (λ (u : Shown). u.next_sid) (room_shown s (record s { next_seq = next_in last_seq (free_seq s) }) (larval_new s p t src dst) (is_full s) sh leaves new e)

-- ---- the words

-- the record that stands in its slot
pub comes_there : (layout : Layout) (j : List ℕ) (s : Shown) (es : List (ℕ × Sa)) (gave : ℕ → Type 0) (slot : ℕ) (rule : Answer)
    (x : Comes layout.states j s es gave None slot rule) → record_at layout.states j slot ≡ Some (new_state x.shown x.new)
comes_there layout j s es gave slot rule x =
    state_is layout.states j (shown_after s rule.change) slot (entries_but None es) [] (new_state x.shown x.new) x.stands

pub comes_larval : (layout : Layout) (j : List ℕ) (s : Shown) (es : List (ℕ × Sa)) (gave : ℕ → Type 0) (slot : ℕ) (p : Policy) (t : Template) (src dst : Addr)
    → Comes layout.states j s es gave None slot (acquired s p t src dst) → HasLarval layout.states j slot
comes_larval layout j s es gave slot p t src dst x =
    let a : Acquires s p t src dst x.new = acquires_new s p t src dst x.shown x.leaves x.new x.change in
    record {
      state = new_state x.shown x.new;
      there = comes_there layout j s es gave slot (acquired s p t src dst) x;
      window = ap (λ (n : NewState). n.spec.window) a.new_is;
      start = ap (λ (n : NewState). n.spec.in_seq) a.new_is;
    }

-- ---- the answers

-- the value of a state that was added now, as the laws on rows say it
pub acquired_answers : (layout : Layout) (i j : List ℕ) (b c : Beside) (m : Machine) (flow : Flow) (w : Wanted) (slot : ℕ) (gave : ℕ → Type 0) (said : Reply)
    (r : Stands layout i b m) → Fits layout (length i) → Frame layout.states.base (end_of layout.states) i j → IsWanted m.shown flow w
    → Comes layout.states j m.shown (entries_in r.rows) gave None slot (acquired m.shown w.policy w.template w.src w.dst)
    → slot < layout.states.slots
    → ((state : Sa) → record_at layout.states j slot ≡ Some state → c ≡ value_put b slot (value_of_new state))
    → ((state : Sa) → record_at layout.states j slot ≡ Some state → said ≡ reply.Acquire state.spec.seq)
    → Answers layout j c m (call.Flow flow) said
acquired_answers layout i j b c m flow w slot gave said r fits frame wanted x below values replies =
    let s : Shown = m.shown in
    let rule : Answer = acquired s w.policy w.template w.src w.dst in
    let there : record_at layout.states j slot ≡ Some (new_state x.shown x.new) = comes_there layout j s (entries_in r.rows) gave slot rule x in
    let whole : flow_rule s flow ≡ rule = acquires s flow w s.max_states wanted in
    let a : Acquires s w.policy w.template w.src w.dst x.new = acquires_new s w.policy w.template w.src w.dst x.shown x.leaves x.new x.change in
    let machine : IsMachine (machine_after m rule.change) =
    subst (λ (y : Answer). IsMachine (machine_after m y.change)) whole (step-kept m (call.Flow flow) r.machine) in
    let stands : Stands layout j (value_put b slot (new_value x.shown x.new)) (machine_after m rule.change) =
    row_comes_by layout i j b m rule.change x.shown x.leaves None x.new slot r fits frame x.change (acquire_acquires s w.policy w.template w.src w.dst) x.tests below x.fresh
    x.stands machine in
    answers layout j c m (call.Flow flow) said
    (replies (new_state x.shown x.new) there ∙ sym a.reply_is ∙ ap (λ (y : Answer). y.reply) (sym whole))
    (subst (λ (y : Answer). Stands layout j c (machine_after m y.change)) (sym whole)
    (subst (λ (d : Beside). Stands layout j d (machine_after m rule.change)) (sym (values (new_state x.shown x.new) there)) stands))

-- a flow that has its reply
pub flow_answers : (layout : Layout) (i j : List ℕ) (b c : Beside) (m : Machine) (flow : Flow) (said : Reply) → Stands layout i b m → IsAnswered m.shown flow said → j ≡ i → c ≡ b
    → Answers layout j c m (call.Flow flow) said
flow_answers layout i j b c m flow said st is words values =
    answers_same layout i j b c m (call.Flow flow) said st (ap (λ (a : Answer). applied m a) (answered_is m.shown flow said is)) words values

-- no room
flow_fault : (held : ℕ) (s : Shown) (flow : Flow) (w : Wanted) (fault : SadFault) → IsWanted s flow w → IsRoomFault fault
    → FaultIs held s (λ t. (acquired t w.policy w.template w.src w.dst).reply) fault → FaultIs held s (λ t. (flow_rule t flow).reply) fault
flow_fault held s flow w Invalid wanted room is = absurd room
flow_fault held s flow w (Exists sid) wanted room is = absurd room
flow_fault held s flow w NoState wanted room is = absurd room
flow_fault held s flow w NoSpi wanted room is = absurd room
flow_fault held s flow w (Full live waiting) wanted room is = record {
  all = is.all;
  waits = is.waits;
  room = is.room;
  reply = is.reply ∙ ap (λ (a : Answer). a.reply) (sym (acquires s flow w live wanted));
}

pub refused_answers : (layout : Layout) (i : List ℕ) (b : Beside) (m : Machine) (flow : Flow) (w : Wanted) (held : ℕ) (fault : SadFault) → Stands layout i b m → IsWanted m.shown flow w
    → IsRoomFault fault → FaultIs held m.shown (λ t. (acquired t w.policy w.template w.src w.dst).reply) fault → Answers layout i b m (call.Flow flow) (fault_reply fault)
refused_answers layout i b m flow w held fault st wanted room is =
    refused layout i b m (call.Flow flow) (λ t. flow_rule t flow) held fault (λ t. refl) refl st (flow_fault held m.shown flow w fault wanted room is)

-- where no slot waits the refusal is the machine's
pub fault_settled : (held : ℕ) (s : Shown) (rule : Shown → Reply) (fault : SadFault) → IsRoomFault fault → FaultIs held s rule fault → held ≡ 0 → is_contended (fault_reply fault) ≡ false
fault_settled held s rule Invalid room is none = absurd room
fault_settled held s rule (Exists sid) room is none = absurd room
fault_settled held s rule NoState room is none = absurd room
fault_settled held s rule NoSpi room is none = absurd room
fault_settled held s rule (Full live waiting) room is none = ap (λ (n : ℕ). is_contended (reply.Full live n)) (is.waits ∙ none)

pub told_fault : (held : ℕ) (s : Shown) (rule : Shown → Reply) (told : ℕ → Option Reply) (r : Result ℕ SadFault) → ReplyIs held s rule told r → IfErr r (λ fault. FaultIs held s rule fault)
told_fault held s rule told (Ok slot) is = tt
told_fault held s rule told (Err fault) is = is
