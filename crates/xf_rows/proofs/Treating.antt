-- A packet or an output to a row that was found, answered by its value and followed by the words, is the machine's.
use Rattle.std.proofs.Common.{ℕ, ◌≡◌, Bool, true, List, length, refl, ap, sym, ◌∙◌, subst, Option, find}
use Rattle.xf_types.specs.declared.state.Sa.{Sa}
use Rattle.xf_types.specs.declared.call.Packet.{Packet}
use Rattle.xf_types.specs.declared.call.Call.TheVariants as call
use Rattle.xf_types.specs.declared.call.Reply.{Reply}
use Rattle.xf_types.specs.declared.call.Reply.TheVariants as reply
use Rattle.xf_types.specs.Machine.{Machine, Own, Outcome, outcome}
use Rattle.xf_types.specs.Moves.{says_soft}
use Rattle.xf_types.specs.StateList.{latest_match, has_sid, has_id}
use Rattle.xf_types.specs.OneState.{put_back, on_found}
use Rattle.xf_types.specs.TrafficRules.{Fate, Same, Ends, Becomes, Treated, packet_at, output_at, id_of_packet}
use Rattle.xf_types.specs.IsMachine.{IsMachine}
use Rattle.xf_laws.proofs.MachineLemmas.{step-kept}
use Rattle.xf_local.specs.View.{LocalView, LiveView}
use Rattle.xf_local.specs.Alone.{Traffic, Inward, Outward, left_in, step_of}
use Rattle.xf_local.specs.Answering.{Answered, IsDead, WantsTurn, Replies, Settles, settled_answer, settled_value}
use Rattle.xf_local.specs.Laws.{machine_after}
use Rattle.xf_local.proofs.OneState.{packet-named, output-alone}
use Rattle.xf_index.specs.Indexes.{records_in}
use Rattle.xf_image.specs.Frames.{Frame}
use Rattle.xf_sadidx.specs.Layout.{end_of}
use Rattle.xf_sadimage.specs.States.{StatesStand}
use Rattle.xf_rows.specs.declared.layout.Layout.{Layout}
use Rattle.xf_rows.specs.Layouts.{Fits}
use Rattle.xf_rows.specs.Rows.{Row, entries_in}
use Rattle.xf_rows.specs.Values.{Beside, at, value_put}
use Rattle.xf_rows.specs.Stands.{Stands}
use Rattle.xf_rows.specs.Finds.{FoundAt}
use Rattle.xf_rows.specs.Fates.{Tells, says_ended, entries_told, entries_fated, value_fated}
use Rattle.xf_rows.specs.Replies.{Answers}
use Rattle.xf_rows.proofs.Changing.{row_fated}
use Rattle.xf_rows.proofs.Telling.{TellsFate, tells_packet, tells_output, told_entries, answers}

-- what is left of a state after its fate
left_fated : (l : LiveView) (slot : ℕ) (f : Fate) → left_in (machine_after l f) ≡ value_fated l.time (slot, (l.state, l.own)) f
left_fated l slot Same = refl
left_fated l slot Ends = refl
left_fated l slot (Becomes soft own) = refl

-- the reply of an answer
reply_in : Reply → Answered → Reply
reply_in missing IsDead = missing
reply_in missing WantsTurn = missing
reply_in missing (Replies r) = r

same_reply : (r s : Reply) → Replies r ≡ Replies s → r ≡ s
unfolding reply_in
same_reply r s e = ap (λ (a : Answered). reply_in r a) e

-- the reply is the machine's, and words and values stand for the machine after it
pub record IsTreated (layout : Layout) (image : List ℕ) (b : Beside) (said : Reply) (o : Outcome) : Type 0 where
  pub is_reply : said ≡ o.reply
  pub stands : Stands layout image b o.machine

-- by the rule of one state
pub state_treated : (layout : Layout) (i j : List ℕ) (b : Beside) (m : Machine) (t : Traffic) (missing : Reply) (treat : ℕ → Sa → Own → Treated)
    (test : Sa → Bool) (found : Option Sa) (slot : ℕ) (v : LocalView) (said : Reply) (r : Stands layout i b m) (f : FoundAt b m r.rows test slot found)
    → ((l : LiveView) → test l.state ≡ true
    → step_of l t ≡ outcome (treat l.time l.state l.own).reply (machine_after l (treat l.time l.state l.own).fate))
    → ((time : ℕ) (s : Sa) (o : Own) → TellsFate (treat time s o))
    → IsMachine (on_found m missing treat found).machine
    → Fits layout (length i) → Frame layout.states.base (end_of layout.states) i j → b.held slot ≡ true
    → Settles (Replies said) (at b slot) v t
    → StatesStand layout.states j
    (record m.shown { states = records_in (entries_told (says_ended said) (says_soft said) (entries_in f.place.front) f.row.0 f.row.1.0 (entries_in f.place.back)) })
    (entries_told (says_ended said) (says_soft said) (entries_in f.place.front) f.row.0 f.row.1.0 (entries_in f.place.back))
    → IsTreated layout j (value_put b slot v) said (on_found m missing treat found)
state_treated layout i j b m t missing treat test found slot v said r f one tells machine fits frame held settles st =
    let x : Row = f.row in
    let k : LiveView = record { state = x.1.0; own = x.1.1; time = m.shown.time } in
    let did : Treated = treat m.shown.time x.1.0 x.1.1 in
    let alone : step_of k t ≡ outcome did.reply (machine_after k did.fate) = one k f.passes in
    let said_is : said ≡ did.reply =
    same_reply said (step_of k t).reply (settles.answer ∙ ap (λ (u : LocalView). settled_answer u t) (f.value held)) ∙ ap (λ (o : Outcome). o.reply) alone in
    let value_is : v ≡ value_fated m.shown.time x did.fate =
    settles.value ∙ ap (λ (u : LocalView). settled_value u t) (f.value held) ∙ ap (λ (o : Outcome). left_in o.machine) alone ∙ left_fated k x.0 did.fate in
    let told : Tells said did.fate = subst (λ (q : Reply). Tells q did.fate) (sym said_is) (tells m.shown.time x.1.0 x.1.1) in
    let es : entries_told (says_ended said) (says_soft said) (entries_in f.place.front) x.0 x.1.0 (entries_in f.place.back)
    ≡ entries_fated (entries_in f.place.front) x.0 x.1.0 (entries_in f.place.back) did.fate =
    told_entries (entries_in f.place.front) x.0 x.1.0 (entries_in f.place.back) said did.fate told in
    let whole : on_found m missing treat found ≡ outcome did.reply (put_back m x.1.0 did.fate) =
    ap (λ (o : Option Sa). on_found m missing treat o) f.state
    ∙ ap (λ (o : Own). outcome (treat m.shown.time x.1.0 o).reply (put_back m x.1.0 (treat m.shown.time x.1.0 o).fate)) f.own in
    let put : value_put b x.0 (value_fated m.shown.time x did.fate) ≡ value_put b slot v =
    ap (λ (n : ℕ). value_put b n (value_fated m.shown.time x did.fate)) f.slot_is ∙ ap (λ (u : LocalView). value_put b slot u) (sym value_is) in
    let stands : Stands layout j (value_put b x.0 (value_fated m.shown.time x did.fate)) (put_back m x.1.0 did.fate) =
    row_fated layout i j b m x f.place.front f.place.back did.fate r fits frame f.place.whole (subst (λ (n : ℕ). b.held n ≡ true) (sym f.slot_is) held)
    (subst (λ (xs : List (ℕ × Sa)). StatesStand layout.states j (record m.shown { states = records_in xs }) xs) es st)
    (subst (λ (o : Outcome). IsMachine o.machine) whole machine) in
    subst (λ (o : Outcome). IsTreated layout j (value_put b slot v) said o) (sym whole)
    (record { is_reply = said_is; stands = subst (λ (c : Beside). Stands layout j c (put_back m x.1.0 did.fate)) put stands })

-- a packet
pub packet_treated : (layout : Layout) (i j : List ℕ) (b : Beside) (m : Machine) (p : Packet) (slot : ℕ) (v : LocalView) (said : Reply) (r : Stands layout i b m)
    (f : FoundAt b m r.rows (has_id (id_of_packet p)) slot (latest_match m.shown.states (id_of_packet p)))
    → Fits layout (length i) → Frame layout.states.base (end_of layout.states) i j → b.held slot ≡ true
    → Settles (Replies said) (at b slot) v (Inward p)
    → StatesStand layout.states j
    (record m.shown { states = records_in (entries_told (says_ended said) (says_soft said) (entries_in f.place.front) f.row.0 f.row.1.0 (entries_in f.place.back)) })
    (entries_told (says_ended said) (says_soft said) (entries_in f.place.front) f.row.0 f.row.1.0 (entries_in f.place.back))
    → Answers layout j (value_put b slot v) m (call.Packet p) said
packet_treated layout i j b m p slot v said r f fits frame held settles st =
    let t : IsTreated layout j (value_put b slot v) said (on_found m reply.NoState (packet_at p) (latest_match m.shown.states (id_of_packet p))) =
    state_treated layout i j b m (Inward p) reply.NoState (packet_at p) (has_id (id_of_packet p)) (latest_match m.shown.states (id_of_packet p)) slot v said r f
    (λ l has. packet-named l p has) (λ time s o. tells_packet p time s o) (step-kept m (call.Packet p) r.machine) fits frame held settles st in
    answers layout j (value_put b slot v) m (call.Packet p) said t.is_reply t.stands

-- an output
pub output_treated : (layout : Layout) (i j : List ℕ) (b : Beside) (m : Machine) (sid len : ℕ) (slot : ℕ) (v : LocalView) (said : Reply) (r : Stands layout i b m)
    (f : FoundAt b m r.rows (has_sid sid) slot (find (has_sid sid) m.shown.states))
    → Fits layout (length i) → Frame layout.states.base (end_of layout.states) i j → b.held slot ≡ true
    → Settles (Replies said) (at b slot) v (Outward len)
    → StatesStand layout.states j
    (record m.shown { states = records_in (entries_told (says_ended said) (says_soft said) (entries_in f.place.front) f.row.0 f.row.1.0 (entries_in f.place.back)) })
    (entries_told (says_ended said) (says_soft said) (entries_in f.place.front) f.row.0 f.row.1.0 (entries_in f.place.back))
    → Answers layout j (value_put b slot v) m (call.Output sid len) said
output_treated layout i j b m sid len slot v said r f fits frame held settles st =
    let t : IsTreated layout j (value_put b slot v) said (on_found m reply.Stale (output_at len) (find (has_sid sid) m.shown.states)) =
    state_treated layout i j b m (Outward len) reply.Stale (output_at len) (has_sid sid) (find (has_sid sid) m.shown.states) slot v said r f
    (λ l has. output-alone l len) (λ time s o. tells_output len time s o) (step-kept m (call.Output sid len) r.machine) fits frame held settles st in
    answers layout j (value_put b slot v) m (call.Output sid len) said t.is_reply t.stands
