-- A state in use is refreshed, in words and in its value.
use Rattle.std.proofs.Common.{ℕ, zero, suc, ◌≡◌, false, List, [], ◌∷◌, ◌++◌, Option, None, length, refl, ap, sym, ◌∙◌, subst, slice_set}
use Rattle.xf_types.specs.declared.call.Call.TheVariants as call
use Rattle.xf_types.specs.declared.call.Reply.TheVariants as reply
use Rattle.xf_types.specs.declared.state.Sa.{Sa}
use Rattle.xf_types.specs.declared.state.SaSpec.{SaSpec}
use Rattle.xf_types.specs.Changes.{Answer, InPlace, answer, applied, machine_after}
use Rattle.xf_types.specs.IsMachine.{IsMachine}
use Rattle.xf_types.specs.Machine.{Machine, Shown, Outcome}
use Rattle.xf_types.specs.StateList.{has_id, id_of, latest_match, changed}
use Rattle.xf_types.specs.StateRules.{refreshed_record, state_updated}
use Rattle.xf_laws.proofs.MachineLemmas.{step-kept}
use Rattle.xf_index.specs.Indexes.{records_in}
use Rattle.xf_image.specs.Frames.{Frame}
use Rattle.xf_sadidx.specs.declared.area.StateArea.{StateArea}
use Rattle.xf_sadidx.specs.Layout.{end_of}
use Rattle.xf_sadimage.specs.States.{StatesStand}
use Rattle.xf_sad.specs.Slots.{listed_in}
use Rattle.xf_sad.proofs.Found.{listed_between}
use Rattle.xf_sad.proofs.Updates.{if_used}
use Rattle.xf_held.specs.View.{KeepsNumbers}
use Rattle.xf_local.specs.View.{LocalView, MayHave, renewed}
use Rattle.xf_rows.specs.declared.layout.Layout.{Layout}
use Rattle.xf_rows.specs.Layouts.{Fits}
use Rattle.xf_rows.specs.Rows.{Row, entries_in, value_of}
use Rattle.xf_rows.specs.Values.{Beside, value_put}
use Rattle.xf_rows.specs.Finds.{FoundAt}
use Rattle.xf_rows.specs.Replies.{Answers}
use Rattle.xf_rows.specs.Stands.{Stands}
use Rattle.xf_rows.proofs.Changing.{record_changes}
use Rattle.xf_rows.proofs.Telling.{answers}

-- ---- values

set_over : (vs : List LocalView) (n : ℕ) (x y : LocalView) → slice_set (slice_set vs n x) n y ≡ slice_set vs n y
set_over [] n x y = refl
set_over (v ∷ vs) zero x y = refl
set_over (v ∷ vs) (suc n) x y = ap (λ (us : List LocalView). v ∷ us) (set_over vs n x y)

-- the last value that is put into a slot stays there
pub put_over : (b : Beside) (slot : ℕ) (x y : LocalView) → value_put (value_put b slot x) slot y ≡ value_put b slot y
put_over b slot x y = ap (λ (vs : List LocalView). record b { values = vs }) (set_over b.values slot x y)

keeps_kind : (spec : SaSpec) (s : Sa) → KeepsNumbers s (refreshed_record spec s)
keeps_kind spec s = record { window = refl; esn = refl }

-- a refreshed record may take the place of the old one
pub may_have : (time : ℕ) (v : LocalView) (x : Row) (spec : SaSpec) (s : Sa) → v ≡ value_of time x → s ≡ refreshed_record spec x.1.0 → MayHave v s
may_have time v x spec s e f =
    subst (λ (u : LocalView). MayHave u s) (sym e) (subst (λ (y : Sa). KeepsNumbers x.1.0 y) (sym f) (keeps_kind spec x.1.0))

pub renewed_is : (time slot : ℕ) (v : LocalView) (x : Row) (spec : SaSpec) (s : Sa) → v ≡ value_of time x → s ≡ refreshed_record spec x.1.0
    → renewed s v ≡ value_of time (slot, (refreshed_record spec x.1.0, x.1.1))
renewed_is time slot v x spec s e f =
    ap (λ (u : LocalView). renewed s u) e ∙ ap (λ (y : Sa). value_of time (slot, (y, x.1.1))) f

-- ---- words

-- the same slots are listed
pub slots_refreshed : (a : StateArea) (i j : List ℕ) (s t : Shown) (front back : List (ℕ × Sa)) (slot : ℕ) (x y : Sa) → StatesStand a i s (front ++ ((slot, x) ∷ back))
    → StatesStand a j t (front ++ ((slot, y) ∷ back)) → listed_in a j ≡ listed_in a i
slots_refreshed a i j s t front back slot x y old new = listed_between a j t front back slot y new ∙ sym (listed_between a i s front back slot x old)

-- ---- the call

pub used : (layout : Layout) (i j : List ℕ) (b c : Beside) (m : Machine) (spec : SaSpec) (slot sid : ℕ) (r : Stands layout i b m)
    (f : FoundAt b m r.rows (has_id (id_of spec)) slot (latest_match m.shown.states (id_of spec)))
    → Fits layout (length i) → Frame layout.states.base (end_of layout.states) i j → f.row.1.0.larval ≡ false
    → StatesStand layout.states j
    (record m.shown { states = records_in (entries_in f.place.front ++ ((slot, refreshed_record spec f.row.1.0) ∷ entries_in f.place.back)) })
    (entries_in f.place.front ++ ((slot, refreshed_record spec f.row.1.0) ∷ entries_in f.place.back))
    → c ≡ value_put b slot (value_of m.shown.time (slot, (refreshed_record spec f.row.1.0, f.row.1.1))) → sid ≡ f.row.1.0.sid
    → Answers layout j c m (call.StateUpdate spec) (reply.DoneSid sid)
used layout i j b c m spec slot sid r f fits frame in_use st value is =
    let x : Row = f.row in
    let front : List Row = f.place.front in
    let back : List Row = f.place.back in
    let rule : Answer = answer (reply.DoneSid x.1.0.sid) (InPlace (record m.shown { states = changed x.1.0.sid (refreshed_record spec) m.shown.states })) in
    let whole : applied m rule ≡ applied m (state_updated m.shown spec (latest_match m.shown.states (id_of spec))) =
    ap (λ (y : Answer). applied m y) (sym (if_used m.shown spec x.1.0 in_use)) ∙ ap (λ (o : Option Sa). applied m (state_updated m.shown spec o)) (sym f.state) in
    let machine : IsMachine (machine_after m rule.change) = subst (λ (o : Outcome). IsMachine o.machine) (sym whole) (step-kept m (call.StateUpdate spec) r.machine) in
    let words : StatesStand layout.states j
    (record m.shown { states = records_in (entries_in front ++ ((x.0, refreshed_record spec x.1.0) ∷ entries_in back)) }) (entries_in front ++ ((x.0, refreshed_record spec x.1.0) ∷ entries_in back)) =
    subst (λ (n : ℕ). StatesStand layout.states j
    (record m.shown { states = records_in (entries_in front ++ ((n, refreshed_record spec x.1.0) ∷ entries_in back)) }) (entries_in front ++ ((n, refreshed_record spec x.1.0) ∷ entries_in back))) (sym f.slot_is) st in
    let stands : Stands layout j (value_put b x.0 (value_of m.shown.time (x.0, (refreshed_record spec x.1.0, x.1.1)))) (machine_after m rule.change) =
    record_changes layout i j b m (refreshed_record spec) x front back r fits frame f.place.whole words machine in
    let put : value_put b x.0 (value_of m.shown.time (x.0, (refreshed_record spec x.1.0, x.1.1))) ≡ c =
    ap (λ (n : ℕ). value_put b n (value_of m.shown.time (n, (refreshed_record spec x.1.0, x.1.1)))) f.slot_is ∙ sym value in
    answers layout j c m (call.StateUpdate spec) (reply.DoneSid sid) (ap (λ (n : ℕ). reply.DoneSid n) is ∙ ap (λ (o : Outcome). o.reply) whole)
    (subst (λ (o : Outcome). Stands layout j c o.machine) whole (subst (λ (d : Beside). Stands layout j d (machine_after m rule.change)) put stands))

-- there is none
pub not_updated : (layout : Layout) (i : List ℕ) (b : Beside) (m : Machine) (spec : SaSpec) (r : Stands layout i b m) → latest_match m.shown.states (id_of spec) ≡ None
    → Answers layout i b m (call.StateUpdate spec) reply.NoState
not_updated layout i b m spec r none =
    let whole : applied m (state_updated m.shown spec None) ≡ applied m (state_updated m.shown spec (latest_match m.shown.states (id_of spec))) =
    ap (λ (o : Option Sa). applied m (state_updated m.shown spec o)) (sym none) in
    answers layout i b m (call.StateUpdate spec) reply.NoState (ap (λ (o : Outcome). o.reply) whole) (subst (λ (o : Outcome). Stands layout i b o.machine) whole r)
