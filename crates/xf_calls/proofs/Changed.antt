-- A call on policies over words is the machine's.
use Rattle.std.proofs.Common.{ℕ, ◌≡◌, ◌<◌, ◌^◌, Bool, true, false, cond, List, length, refl, ap, sym, ◌∙◌, subst, slice_index}
use Rattle.xf_types.specs.declared.call.Call.{Call}
use Rattle.xf_types.specs.declared.call.Reply.{Reply}
use Rattle.xf_types.specs.declared.policy.Policy.{Policy}
use Rattle.xf_types.specs.Changes.{Answer, Change, Stays, InPlace, LeaveThen, applied, machine_after, shown_after}
use Rattle.xf_types.specs.History.{is_contended, is_exception}
use Rattle.xf_types.specs.IsMachine.{IsMachine}
use Rattle.xf_types.specs.Machine.{Machine, Shown, Outcome}
use Rattle.xf_types.specs.Steps.{step}
use Rattle.xf_laws.proofs.MachineLemmas.{step-kept}
use Rattle.xf_laws.proofs.StepLemmas.{step-alone, step-ours}
use Rattle.xf_image.specs.Frames.{Frame}
use Rattle.xf_inexact.specs.Whole.{SpdStands, whole_end}
use Rattle.xf_spd.specs.Changes.{IsAt}
use Rattle.xf_policies.specs.Answers.{PolicyAnswers}
use Rattle.xf_rows.specs.declared.layout.Layout.{Layout}
use Rattle.xf_rows.specs.Layouts.{Fits}
use Rattle.xf_rows.specs.Readings.{machine_in}
use Rattle.xf_rows.specs.Replies.{Answers}
use Rattle.xf_rows.specs.Stands.{Stands}
use Rattle.xf_rows.specs.Values.{Beside}
use Rattle.xf_rows.proofs.Keeping.{policies_change}
use Rattle.xf_rows.proofs.Telling.{answers}
use Rattle.xf_calls.specs.OnlyPolicies.{OnlyPolicies}
use Rattle.xf_calls.specs.Stepping.{IsStep}
use Rattle.xf_calls.proofs.Stepped.{is_step}

-- what the calls that list a policy ask of the machine
pub policies_at : {layout : Layout} {i : List ℕ} {b : Beside} {n : Machine} (now : ℕ) → Stands layout i b n → n.shown.next_number < 2 ^ 63
    → now ≡ slice_index i layout.clock → IsAt n.shown now
policies_at now r young is = record {
  number = young;
  policies = r.machine.shown.policies;
  room = r.machine.shown.room;
  range = r.machine.shown.range;
  time = sym r.time ∙ sym is;
}

changed : (layout : Layout) (i j : List ℕ) (b : Beside) (m : Machine) (change : Change) (es : List (ℕ × Policy)) → Fits layout (length i)
    → Frame layout.policies.base (whole_end layout.policies) i j → OnlyPolicies m.shown change → SpdStands layout.policies j (shown_after m.shown change) es
    → IsMachine (machine_after m change) → Stands layout i b m → Stands layout j b (machine_after m change)
changed layout i j b m Stays es = λ fits frame only st machine r.
    policies_change layout i j b m m.shown es fits frame (record { states = refl; next_seq = refl; next_sid = refl; room = refl }) refl st machine r
changed layout i j b m (InPlace s) es = λ fits frame only st machine r.
    policies_change layout i j b m s es fits frame only.0 only.1 st machine r
changed layout i j b m (LeaveThen s leaves new) es = λ fits frame only st machine r. absurd only

-- the rule's answer, and words that stand for what it makes of the policies
pub policies_answer : {layout : Layout} {i j : List ℕ} {b d : Beside} {n : Machine} {held : ℕ} {r : Reply} (call : Call) (rule : Shown → Answer)
    → Fits layout (length i) → Frame layout.policies.base (whole_end layout.policies) i j → d ≡ b
    → OnlyPolicies n.shown (rule n.shown).change → step n call ≡ applied n (rule n.shown) → r ≡ (rule n.shown).reply
    → PolicyAnswers layout.policies j n.shown held r rule → Stands layout i b n
    → Answers layout j d n call r
policies_answer {layout = layout} {i = i} {j = j} {b = b} {d = d} {n = n} {r = r} call rule fits frame f only whole is x st =
    let said : r ≡ (step n call).reply = is ∙ ap (λ (o : Outcome). o.reply) (sym whole) in
    let mine : is_exception r ≡ false = ap (λ (y : Reply). is_exception y) said ∙ step-ours n call in
    let on : SpdStands layout.policies j (shown_after n.shown (rule n.shown).change) x.entries =
    subst (λ (t : Bool). SpdStands layout.policies j (cond t n.shown (shown_after n.shown (rule n.shown).change)) x.entries) mine x.stands in
    let machine : IsMachine (machine_after n (rule n.shown).change) = subst (λ (o : Outcome). IsMachine o.machine) whole (step-kept n call st.machine) in
    let stands : Stands layout j b (machine_after n (rule n.shown).change) = changed layout i j b n (rule n.shown).change x.entries fits frame only on machine st in
    subst (λ (y : Beside). Answers layout j y n call r) (sym f)
    (answers layout j b n call r said (subst (λ (o : Outcome). Stands layout j b o.machine) (sym whole) stands))

-- so it is a step
pub policies_step : {layout : Layout} {i j : List ℕ} {b d : Beside} {n : Machine} {held : ℕ} {r : Reply} (call : Call) (rule : Shown → Answer)
    → Fits layout (length i) → ((slot : ℕ) → b.held slot ≡ true) → Frame layout.policies.base (whole_end layout.policies) i j → d ≡ b
    → OnlyPolicies n.shown (rule n.shown).change → step n call ≡ applied n (rule n.shown) → r ≡ (rule n.shown).reply
    → PolicyAnswers layout.policies j n.shown held r rule → Stands layout i b n
    → IsStep n (machine_in layout j d.values) call r
policies_step {n = n} {r = r} call rule fits turns frame f only whole is x st =
    let said : r ≡ (step n call).reply = is ∙ ap (λ (o : Outcome). o.reply) (sym whole) in
    is_step (λ slot. ap (λ (y : Beside). y.held slot) f ∙ turns slot) (ap (λ (y : Reply). is_contended y) said ∙ step-alone n call)
    (policies_answer call rule fits frame f only whole is x st)
