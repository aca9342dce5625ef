-- What a call on the policies wrote, from what its body wrote and the statuses and the id after that.
use Rattle.std.proofs.Common.{◌≡◌, ℕ, ◌+◌, ◌<◌, ◌≤◌, Bool, false, List, [], ◌∷◌, ◌++◌, length, refl, sym, ap, ◌∙◌, subst, arith, Option, None, slice_index, slice_set, get_or-set_same, get_or-set_other, length-set}
use Rattle.xf_types.specs.declared.call.Call.{Call}
use Rattle.xf_types.specs.declared.call.Call.TheVariants as call
use Rattle.xf_types.specs.declared.call.Reply.{Reply}
use Rattle.xf_types.specs.declared.call.Reply.TheVariants as reply
use Rattle.xf_types.specs.declared.policy.Policy.{Policy}
use Rattle.xf_types.specs.declared.policy.Thresholds.{Thresholds}
use Rattle.xf_types.specs.Changes.{shown_after}
use Rattle.xf_types.specs.IsMachine.{IsMachine}
use Rattle.xf_types.specs.Machine.{Machine, Shown, Outcome, outcome}
use Rattle.xf_types.specs.PolicyList.{without}
use Rattle.xf_types.specs.PolicyRules.{policy_set}
use Rattle.xf_types.specs.Steps.{step}
use Rattle.xf_laws.proofs.MachineLemmas.{step-kept}
use Rattle.xf_image.specs.Frames.{Frame}
use Rattle.xf_image.specs.Readings.{listed_in}
use Rattle.xf_inexact.specs.Whole.{SpdStands, whole_end}
use Rattle.xf_sadidx.specs.Layout.{end_of}
use Rattle.xf_sadimage.specs.States.{StatesStand, AlikeInStates}
use Rattle.xf_sadimage.proofs.Keeping as states
use Rattle.xf_rows.specs.Layouts.{Fits}
use Rattle.xf_rows.specs.Readings.{state_slots}
use Rattle.xf_rows.specs.Replies.{Answers}
use Rattle.xf_rows.specs.Stands.{Stands}
use Rattle.xf_rows.specs.Values.{Beside}
use Rattle.xf_rows.proofs.Keeping.{policies_change}
use Rattle.xf_rows.proofs.Reading.{state_slots_are}
use Rattle.xf_rows.proofs.Telling.{answers}
use Rattle.xf_invariant.specs.Meaning.{Told}
use Rattle.xf_meaning.specs.Calls.{AnswersAll}
use Rattle.xf_meaning.specs.Good.{Good}
use Rattle.xf_meaning.specs.Places.{layout_of, policies_of, states_of, policy_id_place, bucket_ids_place, size_of}
use Rattle.xf_desk.specs.Marks.{AreMoved, KeepsRecords, moved_slots}
use Rattle.xf_desk.proofs.MarkLaws.{mark_laws}
use Rattle.xf_serve.specs.Changing.{PolicyMove}

-- ---- a body's answer

-- the policies change in place, by the words of theirs alone
pub answer_in_place : (p s : ℕ) (i j : List ℕ) (b : Beside) (n : Machine) (c : Call) (r : Reply) (t : Shown) (es : List (ℕ × Policy)) → Fits (layout_of p s) (length i)
    → Frame (policies_of p s).base (whole_end (policies_of p s)) i j → AlikeInStates n.shown t → t.time ≡ n.shown.time → step n c ≡ outcome r (record { shown = t; own = n.own })
    → SpdStands (policies_of p s) j t es → Stands (layout_of p s) i b n → Answers (layout_of p s) j b n c r
answer_in_place p s i j b n c r t es fits frame alike time whole on st =
    let machine : IsMachine (record { shown = t; own = n.own }) = subst (λ (o : Outcome). IsMachine o.machine) whole (step-kept n c st.machine) in
    answers (layout_of p s) j b n c r (sym (ap (λ (o : Outcome). o.reply) whole))
    (subst (λ (o : Outcome). Stands (layout_of p s) j b o.machine) (sym whole)
    (policies_change (layout_of p s) i j b n t es fits frame alike time on machine st))

-- ---- what all wrote

pub without_none : (xs : List ℕ) → without (λ slot. false) xs ≡ xs
without_none [] = refl
without_none (x ∷ xs) = ap (λ (ys : List ℕ). x ∷ ys) (without_none xs)

behind_none : (xs : List ℕ) → xs ++ [] ≡ xs
behind_none [] = refl
behind_none (x ∷ xs) = ap (λ (ys : List ℕ). x ∷ ys) (behind_none xs)

-- none left and none came
pub stays_all : (xs : List ℕ) → moved_slots (λ slot. false) None xs ≡ xs
stays_all xs = behind_none (without (λ slot. false) xs) ∙ without_none xs

pub none_moved : (first size : ℕ) (old new : List ℕ) → ((slot : ℕ) → slot < size → slice_index new (first + slot) ≡ slice_index old (first + slot))
    → AreMoved first size old new (λ slot. false) None
none_moved first size old new same = record {
  came_is = λ slot e. absurd cc;
  gone_are = λ slot l e d. absurd cc;
  others = λ slot l e d. same slot l;
}

-- The body wrote the words of the policies, and after it statuses and ids were stored.
pub record Wrote (p s : ℕ) (old mid new : List ℕ) (c : Call) (r : Reply) (gone : ℕ → Bool) (came : Option ℕ) : Type 0 where
  pub frame : Frame (policies_of p s).base (whole_end (policies_of p s)) old mid
  pub answers : (b : Beside) → AnswersAll p s old b mid b c r
  pub listed : (t : Told) → Good p s old t → listed_in (policies_of p s) mid ≡ moved_slots gone came (listed_in (policies_of p s) old)
  pub records : KeepsRecords p s mid new
  pub marks : AreMoved 0 p old new gone came
  pub of_states : (slot : ℕ) → slot < s → slice_index new (p + slot) ≡ slice_index old (p + slot)
  pub id : slice_index new (policy_id_place p s) ≡ slice_index old (policy_id_place p s) + 1
  pub buckets : (q : ℕ) → bucket_ids_place p s ≤ q → slice_index new q ≡ slice_index old q

pub wrote_moves : (p s : ℕ) (old mid new : List ℕ) (c : Call) (r : Reply) (gone : ℕ → Bool) (came : Option ℕ) → Fits (layout_of p s) (length old)
    → Wrote p s old mid new c r gone came → PolicyMove p s old new c r
wrote_moves p s old mid new c r gone came fits w =
    let fits_mid : Fits (layout_of p s) (length mid) = subst (λ (n : ℕ). Fits (layout_of p s) n) (sym w.frame.size) fits in
    let order : whole_end (policies_of p s) ≤ (states_of p s).base = fits.order in
    let behind : end_of (states_of p s) ≤ (layout_of p s).clock = fits.behind in
    record {
      size = w.records.size ∙ w.frame.size;
      answers = λ b. mark_laws.answers p s old mid new b b c r fits_mid w.records (w.answers b);
      marks = λ t b m good shown st.
          let now : StatesStand (states_of p s) mid t.shown good.states =
          states.stands_kept (states_of p s) old mid t.shown good.states fits.states (λ q h l. w.frame.above q (omega (arith, h, order))) good.on_states in
          let same : state_slots (states_of p s) mid ≡ state_slots (states_of p s) old =
          state_slots_are (states_of p s) mid t.shown good.states now ∙ sym (state_slots_are (states_of p s) old t.shown good.states good.on_states) in
          mark_laws.marks p s old mid new t b _ gone (λ slot. false) came None fits_mid good (Answers.stands (w.answers b m st)) w.records (w.listed t good)
          (same ∙ sym (stays_all (state_slots (states_of p s) old))) w.marks (none_moved p s old new w.of_states);
      states = λ q h l. w.records.same q (omega (arith, h)) l ∙ w.frame.above q (omega (arith, h, order));
      id = w.id;
      buckets = w.buckets;
    }

-- ---- the thresholds

module _ (p s : ℕ) (old mid new : List ℕ) (set : Thresholds) (fits : Fits (layout_of p s) (length old)) (size : length old ≡ size_of p s)
    (frame : Frame (policies_of p s).base (whole_end (policies_of p s)) old mid)
    (stands : (t : Shown) (es : List (ℕ × Policy)) → SpdStands (policies_of p s) old t es → SpdStands (policies_of p s) mid (shown_after t (policy_set t set).change) es)
    (slots : (t : Shown) (es : List (ℕ × Policy)) → SpdStands (policies_of p s) old t es → listed_in (policies_of p s) mid ≡ listed_in (policies_of p s) old)
    (stored : new ≡ slice_set mid (policy_id_place p s) (slice_index old (policy_id_place p s) + 1)) where
  other : (q : ℕ) → (q ≡ policy_id_place p s → ⊥) → slice_index new q ≡ slice_index mid q
  other q d = ap (λ (i : List ℕ). slice_index i q) stored ∙ get_or-set_other mid (policy_id_place p s) q (slice_index old (policy_id_place p s) + 1) 0 d

  set_wrote : Wrote p s old mid new (call.PolicySet set) reply.Done (λ slot. false) None
  set_wrote = record {
    frame = frame;
    answers = λ b m st.
        answer_in_place p s old mid b m (call.PolicySet set) reply.Done (shown_after m.shown (policy_set m.shown set).change) st.policies fits frame
        (record { states = refl; next_seq = refl; next_sid = refl; room = refl }) refl refl (stands m.shown st.policies st.on_policies) st;
    listed = λ t good. slots t.shown good.policies good.on_policies ∙ sym (stays_all (listed_in (policies_of p s) old));
    records = record {
      size = ap (λ (i : List ℕ). length i) stored ∙ length-set mid (policy_id_place p s) (slice_index old (policy_id_place p s) + 1);
      same = λ q h l. other q (λ e. omega (arith, e, l));
    };
    marks = none_moved 0 p old new (λ slot l. other (0 + slot) (λ e. omega (arith, e, l)) ∙ frame.below (0 + slot) (omega (arith, l)));
    of_states = λ slot l. other (p + slot) (λ e. omega (arith, e, l)) ∙ frame.below (p + slot) (omega (arith, l));
    id =
        ap (λ (i : List ℕ). slice_index i (policy_id_place p s)) stored
        ∙ get_or-set_same mid (policy_id_place p s) (slice_index old (policy_id_place p s) + 1) 0
        (let long : length mid ≡ length old = frame.size in omega (arith, long, size));
    buckets = λ q h. other q (λ e. omega (arith, e, h)) ∙ frame.above q (omega (arith, h));
  }

  pub set_moves : PolicyMove p s old new (call.PolicySet set) reply.Done
  set_moves = wrote_moves p s old mid new (call.PolicySet set) reply.Done (λ slot. false) None fits set_wrote
