-- The state that a packet or an output is for is the one whose slot's turn is held, and so its answer may be drawn.
use Rattle.std.proofs.Common.{◌≡◌, ℕ, ◌+◌, ◌<◌, true, false, List, refl, sym, ap, ◌∙◌, subst, Option, Some}
use Rattle.std.specs.Prelude.{find}
use Rattle.xf_types.specs.declared.call.Call.TheVariants as call
use Rattle.xf_types.specs.declared.call.Packet.{Packet}
use Rattle.xf_types.specs.declared.state.Sa.{Sa}
use Rattle.xf_types.specs.History.{is_contended}
use Rattle.xf_types.specs.StateList.{has_id, has_sid, last_of}
use Rattle.xf_types.specs.TrafficRules.{id_of_packet}
use Rattle.xf_rows.specs.Finds.{FoundAt}
use Rattle.xf_rows.specs.Stands.{Stands}
use Rattle.xf_rows.specs.Values.{Beside}
use Rattle.xf_views.specs.declared.entry.Entry.{Entry}
use Rattle.xf_views.specs.declared.view.SlotTurn.{SlotTurn}
use Rattle.xf_views.specs.declared.view.Start.{Start}
use Rattle.xf_ownpart.specs.OwnPart.{listing}
use Rattle.xf_legalpart.specs.Honest.{IsForKept}
use Rattle.xf_meaning.specs.Calls.{AnswersAll, AreKept, IsKnown}
use Rattle.xf_meaning.specs.Places.{layout_of, states_of}
use Rattle.xf_meaning.proofs.Calling.{kept, known}
use Rattle.xf_values.specs.declared.state_value.StateValue.{StateValue}
use Rattle.xf_live.specs.Passes.{LiveView, PassView}
use Rattle.xf_live.specs.Values.{holds}
use Rattle.xf_traffic.specs.Found.{IsFirst, IsLatest}
use Rattle.xf_traffic.proofs.Listed.{at_first, at_latest}
use Rattle.xf_desk.specs.Lending.{IsLent}
use Rattle.xf_desk.specs.Values.{beside_of}
use Rattle.xf_serve.specs.Served.{IsTableOf}
use Rattle.xf_move.specs.OnSlot.{IsAnsweredOn, KnowsAll}

same_state : (x y : Sa) (o : Option Sa) → o ≡ Some x → o ≡ Some y → x ≡ y
same_state x y o a b = let e : Some x ≡ Some y = sym a ∙ b in cc

module _ (p s : ℕ) (start : Start) (q : PassView StateValue) (slot : ℕ) (k : KnowsAll p s start q) (below : slot < s)
    (held : Beside.held (beside_of start q.values) slot ≡ true) where
  stands : Stands (layout_of p s) q.view.image.words (beside_of start q.values) k.machine
  stands = known p s q.view.image.words q.view.own.turns (beside_of start q.values) k.machine k.ids k.known k.kept

  for_packet : (packet : Packet) → IsLatest (states_of p s) q.view.image.words (has_id (id_of_packet packet)) (Some slot)
      → IsForKept q.view.own.turns k.machine.shown (call.Packet packet)
  for_packet packet is x found =
      let f : FoundAt (beside_of start q.values) k.machine stands.rows (has_id (id_of_packet packet)) slot (last_of (has_id (id_of_packet packet)) k.machine.shown.states) =
      at_latest (layout_of p s) q.view.image.words (beside_of start q.values) k.machine (has_id (id_of_packet packet)) slot stands is in (
        listing f.row.1.0 k.machine.shown.time f.row.1.1,
        kept p s q.view.own.turns (beside_of start q.values) slot (record { state = f.row.1.0; own = f.row.1.1; time = k.machine.shown.time }) k.kept below held (f.value held),
        ap (λ (y : Sa). y.sid) (same_state f.row.1.0 x (last_of (has_id (id_of_packet packet)) k.machine.shown.states) f.state found),
      )

  for_output : (sid len : ℕ) → IsFirst (states_of p s) q.view.image.words (has_sid sid) (Some slot) → IsForKept q.view.own.turns k.machine.shown (call.Output sid len)
  for_output sid len is x found =
      let f : FoundAt (beside_of start q.values) k.machine stands.rows (has_sid sid) slot (find (has_sid sid) k.machine.shown.states) =
      at_first (layout_of p s) q.view.image.words (beside_of start q.values) k.machine (has_sid sid) slot stands is in (
        listing f.row.1.0 k.machine.shown.time f.row.1.1,
        kept p s q.view.own.turns (beside_of start q.values) slot (record { state = f.row.1.0; own = f.row.1.1; time = k.machine.shown.time }) k.kept below held (f.value held),
        ap (λ (y : Sa). y.sid) (same_state f.row.1.0 x (find (has_sid sid) k.machine.shown.states) f.state found),
      )

-- what was drawn for by the pass that took the turn may be drawn by the one that answered
module _ (p s : ℕ) (l : LiveView) (q r : PassView StateValue) (slot : ℕ) (e : Entry) (base : IsTableOf p s l) (k : KnowsAll p s l.start q) (below : slot < s)
    (held : holds q.values (p + slot) ≡ true) (lent : IsLent l.start.policies q r false)
    (turns : Beside.held (beside_of l.start r.values) ≡ Beside.held (beside_of l.start q.values))
    (settled : is_contended e.reply ≡ false)
    (answers : AnswersAll p s q.view.image.words (beside_of l.start q.values) r.view.image.words (beside_of l.start r.values) e.call e.reply)
    (for : IsForKept q.view.own.turns k.machine.shown e.call) where
  held_there : holds q.values (l.start.policies + slot) ≡ true
  held_there = ap (λ (n : ℕ). holds q.values (n + slot)) base.policies_are ∙ held

  words_same : r.view.image.words ≡ q.view.image.words
  words_same = lent.before refl

  turns_same : r.view.own.turns ≡ q.view.own.turns
  turns_same = let same = lent.turns.same (λ j. ap (λ (h : ℕ → _). h j) turns) in ap (λ own. own.turns) same.0

  known_there : IsKnown l.start.policies l.start.states r.view.image.words r.view.own.turns k.machine k.ids
  known_there =
      subst (λ (n : ℕ). IsKnown n l.start.states r.view.image.words r.view.own.turns k.machine k.ids) (sym base.policies_are)
      (subst (λ (n : ℕ). IsKnown p n r.view.image.words r.view.own.turns k.machine k.ids) (sym base.states_are)
      (subst (λ (i : List ℕ). IsKnown p s i r.view.own.turns k.machine k.ids) (sym words_same)
      (subst (λ (ts : List SlotTurn). IsKnown p s q.view.image.words ts k.machine k.ids) (sym turns_same) k.known)))

  kept_there : AreKept l.start.policies l.start.states r.view.own.turns (beside_of l.start q.values)
  kept_there =
      subst (λ (n : ℕ). AreKept n l.start.states r.view.own.turns (beside_of l.start q.values)) (sym base.policies_are)
      (subst (λ (n : ℕ). AreKept p n r.view.own.turns (beside_of l.start q.values)) (sym base.states_are)
      (subst (λ (ts : List SlotTurn). AreKept p s ts (beside_of l.start q.values)) (sym turns_same) k.kept))

  answers_there : AnswersAll l.start.policies l.start.states r.view.image.words (beside_of l.start q.values) r.view.image.words (beside_of l.start r.values) e.call e.reply
  answers_there =
      subst (λ (n : ℕ). AnswersAll n l.start.states r.view.image.words (beside_of l.start q.values) r.view.image.words (beside_of l.start r.values) e.call e.reply) (sym base.policies_are)
      (subst (λ (n : ℕ). AnswersAll p n r.view.image.words (beside_of l.start q.values) r.view.image.words (beside_of l.start r.values) e.call e.reply) (sym base.states_are)
      (subst (λ (i : List ℕ). AnswersAll p s i (beside_of l.start q.values) r.view.image.words (beside_of l.start r.values) e.call e.reply) (sym words_same) answers))

  pub answered_on : IsAnsweredOn l.start slot r e
  answered_on = record {
    below = subst (λ (n : ℕ). slot < n) (sym base.states_are) below;
    held = lent.turns.still (l.start.policies + slot) held_there;
    home = lent.home;
    before = beside_of l.start q.values;
    machine = k.machine;
    ids = k.ids;
    known = known_there;
    kept = kept_there;
    same = turns;
    answers = answers_there;
    for = subst (λ (ts : List SlotTurn). IsForKept ts k.machine.shown e.call) (sym turns_same) for;
    settled = settled;
  }

pub packet_on : (p s : ℕ) (l : LiveView) (q r : PassView StateValue) (slot : ℕ) (e : Entry) (packet : Packet) → e.call ≡ call.Packet packet → IsTableOf p s l
    → KnowsAll p s l.start q → slot < s → holds q.values (p + slot) ≡ true → IsLent l.start.policies q r false
    → Beside.held (beside_of l.start r.values) ≡ Beside.held (beside_of l.start q.values) → is_contended e.reply ≡ false
    → AnswersAll p s q.view.image.words (beside_of l.start q.values) r.view.image.words (beside_of l.start r.values) e.call e.reply
    → IsLatest (states_of p s) q.view.image.words (has_id (id_of_packet packet)) (Some slot) → IsAnsweredOn l.start slot r e
packet_on p s l q r slot e packet is base k below held lent turns settled answers found =
    answered_on p s l q r slot e base k below held lent turns settled answers
    (subst (λ c. IsForKept q.view.own.turns k.machine.shown c) (sym is)
    (for_packet p s l.start q slot k below (ap (λ (n : ℕ). holds q.values (n + slot)) base.policies_are ∙ held) packet found))

pub output_on : (p s : ℕ) (l : LiveView) (q r : PassView StateValue) (slot : ℕ) (e : Entry) (sid len : ℕ) → e.call ≡ call.Output sid len → IsTableOf p s l
    → KnowsAll p s l.start q → slot < s → holds q.values (p + slot) ≡ true → IsLent l.start.policies q r false
    → Beside.held (beside_of l.start r.values) ≡ Beside.held (beside_of l.start q.values) → is_contended e.reply ≡ false
    → AnswersAll p s q.view.image.words (beside_of l.start q.values) r.view.image.words (beside_of l.start r.values) e.call e.reply
    → IsFirst (states_of p s) q.view.image.words (has_sid sid) (Some slot) → IsAnsweredOn l.start slot r e
output_on p s l q r slot e sid len is base k below held lent turns settled answers found =
    answered_on p s l q r slot e base k below held lent turns settled answers
    (subst (λ c. IsForKept q.view.own.turns k.machine.shown c) (sym is)
    (for_output p s l.start q slot k below (ap (λ (n : ℕ). holds q.values (n + slot)) base.policies_are ∙ held) sid len found))
