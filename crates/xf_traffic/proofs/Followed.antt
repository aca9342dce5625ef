-- Words that followed a reply stand for the machine after the call, and so do those that a call left.
use Rattle.std.proofs.Common.{arith, ℕ, ◌≡◌, ◌≤◌, Bool, true, false, List, ◌∷◌, ◌++◌, length, slice_index, refl, ap, sym, ◌∙◌, subst, Option, None, Some, ◌⊎◌, inl, inr}
use Rattle.std.proofs.lemmas.List.{length-set}
use Rattle.std.specs.Prelude.{find}
use Rattle.xf_types.specs.declared.state.Sa.{Sa}
use Rattle.xf_types.specs.declared.call.Call.{Call}
use Rattle.xf_types.specs.declared.call.Call.TheVariants as call
use Rattle.xf_types.specs.declared.call.Packet.{Packet}
use Rattle.xf_types.specs.declared.call.Reply.{Reply}
use Rattle.xf_types.specs.declared.call.Reply.TheVariants as reply
use Rattle.xf_types.specs.declared.network.Flow.{Flow}
use Rattle.xf_types.specs.Changes.{Answer, applied, stays}
use Rattle.xf_types.specs.FlowRules.{try_rule}
use Rattle.xf_types.specs.History.{is_contended}
use Rattle.xf_types.specs.Machine.{Machine, Outcome, outcome}
use Rattle.xf_types.specs.Moves.{says_soft}
use Rattle.xf_types.specs.OneState.{on_found}
use Rattle.xf_types.specs.StateList.{latest_match, has_id, has_sid}
use Rattle.xf_types.specs.Steps.{step}
use Rattle.xf_types.specs.TrafficRules.{id_of_packet, packet_at, output_at}
use Rattle.xf_laws.proofs.StepLemmas.{step-alone}
use Rattle.xf_local.specs.Alone.{Traffic, Inward, Outward, machine_of, call_of}
use Rattle.xf_local.specs.Answering.{Answered, IsDead, WantsTurn, Replies, Settles, settled_answer}
use Rattle.xf_local.specs.View.{LocalView, Dead, Live}
use Rattle.xf_index.specs.Indexes.{records_in}
use Rattle.xf_image.specs.Frames.{Frame}
use Rattle.xf_inexact.specs.Whole.{whole_end}
use Rattle.xf_sadidx.specs.declared.area.StateArea.{StateArea}
use Rattle.xf_sadidx.specs.Layout.{end_of}
use Rattle.xf_sadimage.specs.States.{StatesStand}
use Rattle.xf_rows.specs.declared.layout.Layout.{Layout}
use Rattle.xf_rows.specs.Layouts.{Fits}
use Rattle.xf_rows.specs.Rows.{Row, entries_in, value_of}
use Rattle.xf_rows.specs.Values.{Beside, at, value_put}
use Rattle.xf_rows.specs.Stands.{Stands}
use Rattle.xf_rows.specs.Finds.{FoundAt}
use Rattle.xf_rows.specs.Fates.{says_ended, entries_told}
use Rattle.xf_rows.specs.Replies.{Answers, machine_left}
use Rattle.xf_rows.proofs.Finding.{none_first, none_latest}
use Rattle.xf_rows.proofs.Keeping.{stands_apart}
use Rattle.xf_rows.proofs.Telling.{answers}
use Rattle.xf_rows.proofs.Treating.{packet_treated, output_treated}
use Rattle.xf_statecalls.specs.Ready.{LeavesOthers}
use Rattle.xf_traffic.specs.Found.{IsLatest, IsFirst}
use Rattle.xf_traffic.specs.Following.{Follows}
use Rattle.xf_traffic.proofs.Listed.{stands_at, at_latest, at_first}

-- ---- what words follow

pub same_frame : (first last : ℕ) (i : List ℕ) → Frame first last i i
same_frame first last i = record { size = refl; below = λ q h. refl; above = λ q h. refl }

-- nothing is to be done for a state that goes on as it was
pub follows_still : (a : StateArea) (hidden slot : ℕ) (i : List ℕ) → Follows a hidden slot false false i i
follows_still a hidden slot i = record {
  between = i;
  frame = same_frame a.base (end_of a) i;
  after = same_frame 0 hidden i;
  stands = λ s front back x st.
      subst (λ (ss : List Sa). StatesStand a i (record s { states = ss }) (front ++ ((slot, x) ∷ back))) (sym st.listed) st;
}

-- told by the reply
pub follows_told : (a : StateArea) (hidden slot : ℕ) (e f s t : Bool) (i j : List ℕ) → e ≡ f → s ≡ t → Follows a hidden slot f t i j → Follows a hidden slot e s i j
follows_told a hidden slot e f s t i j ended soft follows =
    subst (λ (x : Bool). Follows a hidden slot x s i j) (sym ended) (subst (λ (x : Bool). Follows a hidden slot f x i j) (sym soft) follows)

-- the entries around the found state, as the laws on rows ask for them
told_stands : (layout : Layout) (i j : List ℕ) (b : Beside) (m : Machine) (test : Sa → Bool) (slot hidden : ℕ) (found : Option Sa) (ended soft : Bool)
    (r : Stands layout i b m) (f : FoundAt b m r.rows test slot found) (t : Follows layout.states hidden slot ended soft i j)
    → StatesStand layout.states t.between
    (record m.shown { states = records_in (entries_told ended soft (entries_in f.place.front) f.row.0 f.row.1.0 (entries_in f.place.back)) })
    (entries_told ended soft (entries_in f.place.front) f.row.0 f.row.1.0 (entries_in f.place.back))
told_stands layout i j b m test slot hidden found ended soft r f t =
    let x : Row = f.row in
    let front : List (ℕ × Sa) = entries_in f.place.front in
    let back : List (ℕ × Sa) = entries_in f.place.back in
    subst (λ (n : ℕ). StatesStand layout.states t.between (record m.shown { states = records_in (entries_told ended soft front n x.1.0 back) }) (entries_told ended soft front n x.1.0 back))
    (sym f.slot_is) (t.stands m.shown front back x.1.0 (stands_at layout i b m test slot found r f))

-- ---- the answers

pub answers_apart : (layout : Layout) (i j : List ℕ) (b : Beside) (m : Machine) (c : Call) (r : Reply) (hidden : ℕ) → Fits layout (length i)
    → hidden ≤ layout.policies.base → Frame 0 hidden i j → Answers layout i b m c r → Answers layout j b m c r
answers_apart layout i j b m c r hidden fits low frame a = record {
  is_reply = a.is_reply;
  stands = stands_apart layout i j b (machine_left m c r) fits (λ q from to. frame.above q (omega (arith, low, from))) a.stands;
}

pub packet_done : (layout : Layout) (i k j : List ℕ) (b c : Beside) (m : Machine) (p : Packet) (slot hidden : ℕ) (v : LocalView) (said : Reply)
    → Stands layout i b m → IsLatest layout.states i (has_id (id_of_packet p)) (Some slot)
    → Fits layout (length i) → hidden ≤ layout.policies.base → b.held slot ≡ true
    → Settles (Replies said) (at b slot) v (Inward p)
    → k ≡ i → Follows layout.states hidden slot (says_ended said) (says_soft said) k j
    → c ≡ value_put b slot v
    → Answers layout j c m (call.Packet p) said
packet_done layout i k j b c m p slot hidden v said r is fits low held settles e follows put =
    let f : FoundAt b m r.rows (has_id (id_of_packet p)) slot (latest_match m.shown.states (id_of_packet p)) =
    at_latest layout i b m (has_id (id_of_packet p)) slot r is in
    let t : Follows layout.states hidden slot (says_ended said) (says_soft said) i j =
    subst (λ (w : List ℕ). Follows layout.states hidden slot (says_ended said) (says_soft said) w j) e follows in
    let a : Answers layout t.between (value_put b slot v) m (call.Packet p) said =
    packet_treated layout i t.between b m p slot v said r f fits t.frame held settles
    (told_stands layout i j b m (has_id (id_of_packet p)) slot hidden (latest_match m.shown.states (id_of_packet p)) (says_ended said) (says_soft said) r f t) in
    subst (λ (d : Beside). Answers layout j d m (call.Packet p) said) (sym put)
    (answers_apart layout t.between j (value_put b slot v) m (call.Packet p) said hidden (subst (λ (n : ℕ). Fits layout n) (sym t.frame.size) fits) low t.after a)

pub output_done : (layout : Layout) (i k j : List ℕ) (b c : Beside) (m : Machine) (sid len slot hidden : ℕ) (v : LocalView) (said : Reply)
    → Stands layout i b m → IsFirst layout.states i (has_sid sid) (Some slot)
    → Fits layout (length i) → hidden ≤ layout.policies.base → b.held slot ≡ true
    → Settles (Replies said) (at b slot) v (Outward len)
    → k ≡ i → Follows layout.states hidden slot (says_ended said) (says_soft said) k j
    → c ≡ value_put b slot v
    → Answers layout j c m (call.Output sid len) said
output_done layout i k j b c m sid len slot hidden v said r is fits low held settles e follows put =
    let f : FoundAt b m r.rows (has_sid sid) slot (find (has_sid sid) m.shown.states) = at_first layout i b m (has_sid sid) slot r is in
    let t : Follows layout.states hidden slot (says_ended said) (says_soft said) i j =
    subst (λ (w : List ℕ). Follows layout.states hidden slot (says_ended said) (says_soft said) w j) e follows in
    let a : Answers layout t.between (value_put b slot v) m (call.Output sid len) said =
    output_treated layout i t.between b m sid len slot v said r f fits t.frame held settles
    (told_stands layout i j b m (has_sid sid) slot hidden (find (has_sid sid) m.shown.states) (says_ended said) (says_soft said) r f t) in
    subst (λ (d : Beside). Answers layout j d m (call.Output sid len) said) (sym put)
    (answers_apart layout t.between j (value_put b slot v) m (call.Output sid len) said hidden (subst (λ (n : ℕ). Fits layout n) (sym t.frame.size) fits) low t.after a)

-- a call that leaves the machine
pub answers_same : (layout : Layout) (i j : List ℕ) (b c : Beside) (m : Machine) (k : Call) (r : Reply) → Stands layout i b m → step m k ≡ outcome r m → j ≡ i → c ≡ b
    → Answers layout j c m k r
answers_same layout i j b c m k r st o words values =
    subst (λ (w : List ℕ). Answers layout w c m k r) (sym words)
    (subst (λ (d : Beside). Answers layout i d m k r) (sym values)
    (answers layout i b m k r (sym (ap (λ (x : Outcome). x.reply) o)) (subst (λ (x : Outcome). Stands layout i b x.machine) (sym o) st)))

-- no state is found
pub packet_missing : (layout : Layout) (i j : List ℕ) (b c : Beside) (m : Machine) (p : Packet) → Stands layout i b m
    → IsLatest layout.states i (has_id (id_of_packet p)) None → j ≡ i → c ≡ b → Answers layout j c m (call.Packet p) reply.NoState
packet_missing layout i j b c m p r is words values =
    let none : latest_match m.shown.states (id_of_packet p) ≡ None =
    none_latest layout i b m (has_id (id_of_packet p)) r (sym (is.is m.shown (entries_in r.rows) r.on_states)) in
    answers_same layout i j b c m (call.Packet p) reply.NoState r (ap (λ (x : Option Sa). on_found m reply.NoState (packet_at p) x) none) words values

pub output_missing : (layout : Layout) (i j : List ℕ) (b c : Beside) (m : Machine) (sid len : ℕ) → Stands layout i b m
    → IsFirst layout.states i (has_sid sid) None → j ≡ i → c ≡ b → Answers layout j c m (call.Output sid len) reply.Stale
output_missing layout i j b c m sid len r is words values =
    let none : find (has_sid sid) m.shown.states ≡ None =
    none_first layout i b m (has_sid sid) r (sym (is.is m.shown (entries_in r.rows) r.machine.shown.states r.on_states)) in
    answers_same layout i j b c m (call.Output sid len) reply.Stale r (ap (λ (x : Option Sa). on_found m reply.Stale (output_at len) x) none) words values

-- ---- the value's answer

-- a reply of the value is one of the machine that has its state alone
abbrev reply_in : Reply → Answered → Reply
reply_in given IsDead = given
reply_in given WantsTurn = given
reply_in given (Replies r) = r

pub settled_ours : (v : LocalView) (t : Traffic) (r : Reply) → Replies r ≡ settled_answer v t → is_contended r ≡ false
settled_ours Dead t r e = absurd (cc)
settled_ours (Live l) t r e =
    ap (λ (a : Answered). is_contended (reply_in r a)) e ∙ step-alone (machine_of l) (call_of l t)

-- the value of a found state answers
pub found_answers : (b : Beside) (m : Machine) (rows : List Row) (test : Sa → Bool) (slot : ℕ) (found : Option Sa) (t : Traffic) (f : FoundAt b m rows test slot found)
    → b.held slot ≡ true → settled_answer (at b slot) t ≡ settled_answer (value_of m.shown.time f.row) t
found_answers b m rows test slot found t f held = ap (λ (u : LocalView). settled_answer u t) (f.value held)

pub not_dead : (b : Beside) (m : Machine) (rows : List Row) (test : Sa → Bool) (slot : ℕ) (found : Option Sa) (t : Traffic) → FoundAt b m rows test slot found
    → b.held slot ≡ true → (a : Answered) → a ≡ IsDead ⊎ a ≡ WantsTurn → a ≡ settled_answer (at b slot) t → ⊥
not_dead b m rows test slot found t f held a (inl d) e =
    let k : IsDead ≡ settled_answer (value_of m.shown.time f.row) t = sym d ∙ e ∙ found_answers b m rows test slot found t f held in absurd (cc)
not_dead b m rows test slot found t f held a (inr d) e =
    let k : WantsTurn ≡ settled_answer (value_of m.shown.time f.row) t = sym d ∙ e ∙ found_answers b m rows test slot found t f held in absurd (cc)

-- ---- what is left of others

pub others_followed : (layout : Layout) (hidden slot : ℕ) (ended soft : Bool) (i k j : List ℕ) (b c : Beside) (v : LocalView) → Fits layout (length i)
    → hidden ≤ layout.policies.base → k ≡ i → Follows layout.states hidden slot ended soft k j → c ≡ value_put b slot v → LeavesOthers layout hidden i j b c
others_followed layout hidden slot ended soft i k j b c v fits low e follows put =
    let t : Follows layout.states hidden slot ended soft i j = subst (λ (w : List ℕ). Follows layout.states hidden slot ended soft w j) e follows in
    let order : whole_end layout.policies ≤ layout.states.base = fits.order in
    record {
      size = t.after.size ∙ t.frame.size;
      between = λ q from to. t.after.above q from ∙ t.frame.below q to;
      above = λ q from. t.after.above q (omega (arith, low, order, from)) ∙ t.frame.above q from;
      count = ap (λ (d : Beside). length d.values) put ∙ length-set b.values slot v;
      turns = ap (λ (d : Beside). d.held) put;
    }

pub others_same : (layout : Layout) (hidden : ℕ) (i j : List ℕ) (b c : Beside) → j ≡ i → c ≡ b → LeavesOthers layout hidden i j b c
others_same layout hidden i j b c words values = record {
  size = ap (λ (w : List ℕ). length w) words;
  between = λ q from to. ap (λ (w : List ℕ). slice_index w q) words;
  above = λ q from. ap (λ (w : List ℕ). slice_index w q) words;
  count = ap (λ (d : Beside). length d.values) values;
  turns = ap (λ (d : Beside). d.held) values;
}

pub others_put : (layout : Layout) (hidden slot : ℕ) (i j : List ℕ) (b c : Beside) (v : LocalView) → j ≡ i → c ≡ value_put b slot v → LeavesOthers layout hidden i j b c
others_put layout hidden slot i j b c v words put = record {
  size = ap (λ (w : List ℕ). length w) words;
  between = λ q from to. ap (λ (w : List ℕ). slice_index w q) words;
  above = λ q from. ap (λ (w : List ℕ). slice_index w q) words;
  count = ap (λ (d : Beside). length d.values) put ∙ length-set b.values slot v;
  turns = ap (λ (d : Beside). d.held) put;
}

-- ---- a flow that is only asked for

pub tried_answers : (layout : Layout) (i j : List ℕ) (b c : Beside) (m : Machine) (flow : Flow) (said : Reply) → Stands layout i b m → try_rule m.shown flow ≡ stays said → j ≡ i → c ≡ b
    → Answers layout j c m (call.TryFlow flow) said
tried_answers layout i j b c m flow said st is words values =
    answers_same layout i j b c m (call.TryFlow flow) said st (ap (λ (a : Answer). applied m a) is) words values
