-- Words and values after each step of a tick.
use Rattle.std.proofs.Common.{◌≡◌, ℕ, ◌≤◌, true, List, [], ◌∷◌, ◌++◌, All, max, length, length-set, slice_index, slice_set, get_or-set_other, refl, ap, sym, ◌∙◌, subst, arith}
use Rattle.std.proofs.lemmas.List.Elements.{All-head, All-tail}
use Rattle.xf_types.specs.declared.call.Call.TheVariants.{Tick}
use Rattle.xf_types.specs.declared.call.Event.{Event}
use Rattle.xf_types.specs.declared.call.Reply.TheVariants as reply
use Rattle.xf_types.specs.declared.policy.Policy.{Policy}
use Rattle.xf_types.specs.declared.state.Sa.{Sa}
use Rattle.xf_types.specs.Machine.{Machine, Shown}
use Rattle.xf_types.specs.TickRules.{at_time, events_at, state_event}
use Rattle.xf_image.specs.Readings.{listed_in as policies_listed}
use Rattle.xf_inexact.specs.Whole.{SpdStands, whole_end}
use Rattle.xf_sadidx.specs.Layout.{end_of}
use Rattle.xf_index.specs.Indexes.{slots_in, records_in}
use Rattle.xf_sadimage.specs.States.{StatesStand}
use Rattle.xf_sad.specs.Slots.{listed_in as states_listed}
use Rattle.xf_local.specs.View.{LocalView, event_of}
use Rattle.xf_rows.specs.declared.layout.Layout.{Layout}
use Rattle.xf_rows.specs.Layouts.{Fits}
use Rattle.xf_rows.specs.Rows.{Row, entries_in}
use Rattle.xf_rows.specs.Values.{Beside, Keeps}
use Rattle.xf_rows.specs.Stands.{Stands}
use Rattle.xf_rows.specs.Ticks.{rows_later, AreAged, entry_later}
use Rattle.xf_rows.specs.Replies.{Answers}
use Rattle.xf_rows.proofs.Later.{stands_later, walk_later}
use Rattle.xf_rows.proofs.Telling.{answers}
use Rattle.xf_policies.specs.Standing.{Stood as PoliciesStood, LeavesOthers, AreLater, entries_later}
use Rattle.xf_policies.proofs.Others.{listed_same}
use Rattle.xf_ticking.specs.Counted.{CountsStates}
use Rattle.xf_ticking.specs.Dues.{entries_left}
use Rattle.xf_statecalls.specs.Ready.{Stood}
use Rattle.xf_ticking.specs.Ready.{HoldsListed, LeavesOutside}
use Rattle.xf_ticking.specs.Walks.{StatesStood, StandsLeft}
use Rattle.xf_ticking.proofs.Tells.{turns_are}
use Rattle.xf_ticking.proofs.Places.{fits_still, states_past, states_back, policies_past, states_at, policies_at, time_at, same_states}

-- ---- the lists

pub policies_stood : (layout : Layout) (i : List ℕ) (b : Beside) → Stood layout i b → PoliciesStood layout.policies i
policies_stood layout i b h = record { shown = h.machine.shown; entries = h.stands.policies; stands = h.stands.on_policies }

pub states_stood : (layout : Layout) (i j : List ℕ) (b : Beside) (hidden : ℕ) → Fits layout (length i) → LeavesOthers hidden layout.policies.base (whole_end layout.policies) i j
    → Stood layout i b → StatesStood layout.states j
states_stood layout i j b hidden fits others h =
    record { shown = h.machine.shown; entries = entries_in h.stands.rows; stands = states_past layout i j hidden h.machine.shown (entries_in h.stands.rows) fits others h.stands.on_states }

pub states_stood_here : (layout : Layout) (i j : List ℕ) (b : Beside) → j ≡ i → Stood layout i b → StatesStood layout.states j
states_stood_here layout i j b e h =
    subst (λ (x : List ℕ). StatesStood layout.states x) (sym e) (record { shown = h.machine.shown; entries = entries_in h.stands.rows; stands = h.stands.on_states })

-- the states' events are as many where the policies' words changed
pub counts_then : (layout : Layout) (i j : List ℕ) (b : Beside) (hidden now n : ℕ) → Fits layout (length i)
    → LeavesOthers hidden layout.policies.base (whole_end layout.policies) i j → CountsStates layout i b now n → CountsStates layout j b now n
counts_then layout i j b hidden now n fits others counts = record { is = λ s es st. counts.is s es (states_back layout i j hidden s es fits others st) }

-- the entries that the values leave are those of the rows at the later time
left_by : (now time : ℕ) (b : Beside) (rows : List Row) → All (λ (x : ℕ). b.held x ≡ true) (slots_in (entries_in rows)) → All (Keeps time b) rows
    → entries_left now b (entries_in rows) ≡ entries_in (rows_later now rows)
left_by now time b [] = λ held keeps. refl
left_by now time b (r ∷ rows) = λ held keeps.
    let keep : Keeps time b r = All-head (Keeps time b) r rows keeps in
    let mine : b.held r.0 ≡ true = All-head (λ (x : ℕ). b.held x ≡ true) r.0 (slots_in (entries_in rows)) held in
    let rest : All (λ (x : ℕ). b.held x ≡ true) (slots_in (entries_in rows)) = All-tail (λ (x : ℕ). b.held x ≡ true) r.0 (slots_in (entries_in rows)) held in
    ap (λ (v : LocalView). entry_later (event_of now v) (r.0, r.1.0) ++ entries_left now b (entries_in rows)) (keep.value mine)
    ∙ ap (λ (es : List (ℕ × Sa)). entry_later (state_event now r.1) (r.0, r.1.0) ++ es) (left_by now time b rows rest (All-tail (Keeps time b) r rows keeps))
    ∙ sym (walk_later now r rows)

-- ---- words and values afterwards

pub stands_passed : (layout : Layout) (i j k : List ℕ) (b c : Beside) (m : Machine) (hidden now : ℕ) → Fits layout (length i) → hidden ≤ layout.policies.base
    → HoldsListed layout i b → AreAged now b c → LeavesOthers hidden layout.policies.base (whole_end layout.policies) i j
    → LeavesOthers hidden layout.states.base (end_of layout.states) j k → Stands layout i b m
    → ((s : Shown) (es : List (ℕ × Policy)) → SpdStands layout.policies i s es → AreLater layout.policies j now s es)
    → ((s : Shown) (es : List (ℕ × Sa)) → StatesStand layout.states j s es → StandsLeft layout.states k now b s es)
    → Stands layout (slice_set k layout.clock now) c (at_time m now)
stands_passed layout i j k b c m hidden now fits low held aged one two r later left =
    let fits_j : Fits layout (length j) = fits_still layout i j one.size fits in
    let fits_k : Fits layout (length k) = fits_still layout j k two.size fits_j in
    let p : AreLater layout.policies j now m.shown r.policies = later m.shown r.policies r.on_policies in
    let ps : List (ℕ × Policy) = entries_later now r.policies in
    let es : List (ℕ × Sa) = entries_in r.rows in
    let q : StandsLeft layout.states k now b m.shown es = left m.shown es (states_past layout i j hidden m.shown es fits one r.on_states) in
    let same : entries_left now b es ≡ entries_in (rows_later now r.rows) =
    left_by now m.shown.time b r.rows (turns_are layout i b m.shown es r.on_states held) r.values.live in
    let rows : StatesStand layout.states k (record m.shown { states = records_in (entries_in (rows_later now r.rows)) }) (entries_in (rows_later now r.rows)) =
    subst (λ (fs : List (ℕ × Sa)). StatesStand layout.states k (record m.shown { states = records_in fs }) fs) same q in
    stands_later layout i (slice_set k layout.clock now) b c m now ps r
    (policies_at layout k now _ ps fits_k (policies_past layout j k hidden _ ps fits_j low two p))
    (states_at layout k now (record m.shown { states = records_in (entries_in (rows_later now r.rows)) }) (entries_in (rows_later now r.rows)) fits_k rows)
    (time_at layout k now fits_k) aged

-- ---- the same slots are listed

pub states_first : (layout : Layout) (i j : List ℕ) (b : Beside) (hidden : ℕ) → Fits layout (length i)
    → LeavesOthers hidden layout.policies.base (whole_end layout.policies) i j → Stood layout i b → states_listed layout.states i ≡ states_listed layout.states j
states_first layout i j b hidden fits others h =
    same_states layout.states i j h.machine.shown h.machine.shown (entries_in h.stands.rows) h.stands.on_states
    (states_past layout i j hidden h.machine.shown (entries_in h.stands.rows) fits others h.stands.on_states)

pub states_last : (layout : Layout) (j k : List ℕ) (b : Beside) (now : ℕ) → Fits layout (length k) → StatesStood layout.states j
    → ((s : Shown) (es : List (ℕ × Sa)) → StatesStand layout.states j s es → StandsLeft layout.states k now b s es)
    → states_listed layout.states k ≡ states_listed layout.states (slice_set k layout.clock now)
states_last layout j k b now fits h left =
    let q : StandsLeft layout.states k now b h.shown h.entries = left h.shown h.entries h.stands in
    same_states layout.states k (slice_set k layout.clock now) _ _ (entries_left now b h.entries) q (states_at layout k now _ (entries_left now b h.entries) fits q)

pub policies_last : (layout : Layout) (i j k : List ℕ) (hidden now : ℕ) → Fits layout (length j) → hidden ≤ layout.policies.base
    → LeavesOthers hidden layout.states.base (end_of layout.states) j k → PoliciesStood layout.policies i
    → ((s : Shown) (es : List (ℕ × Policy)) → SpdStands layout.policies i s es → AreLater layout.policies j now s es)
    → policies_listed layout.policies j ≡ policies_listed layout.policies (slice_set k layout.clock now)
policies_last layout i j k hidden now fits low others h later =
    let p : AreLater layout.policies j now h.shown h.entries = later h.shown h.entries h.stands in
    let ps : List (ℕ × Policy) = entries_later now h.entries in
    listed_same layout.policies j (slice_set k layout.clock now) _ _ ps p
    (policies_at layout k now _ ps (fits_still layout j k others.size fits) (policies_past layout j k hidden _ ps fits low others p))

-- words and values that are equal to others
pub stands_same : (layout : Layout) (i j : List ℕ) (b c : Beside) (m : Machine) → j ≡ i → c ≡ b → Stands layout i b m → Stands layout j c m
stands_same layout i j b c m e f st =
    subst (λ (x : List ℕ). Stands layout x c m) (sym e) (subst (λ (d : Beside). Stands layout i d m) (sym f) st)

-- ---- what is left of others

pub outside_none : (layout : Layout) (hidden : ℕ) (i j : List ℕ) (b c : Beside) → j ≡ i → c ≡ b → LeavesOutside layout hidden i j b c
outside_none layout hidden i j b c e f = record {
  size = ap (λ (x : List ℕ). length x) e;
  between = λ q h l. ap (λ (x : List ℕ). slice_index x q) e;
  above = λ q l. ap (λ (x : List ℕ). slice_index x q) e;
  count = ap (λ (x : Beside). length x.values) f;
  turns = ap (λ (x : Beside). x.held) f;
}

pub outside_passed : (layout : Layout) (i j k : List ℕ) (b c : Beside) (hidden now : ℕ) → Fits layout (length i) → AreAged now b c
    → LeavesOthers hidden layout.policies.base (whole_end layout.policies) i j → LeavesOthers hidden layout.states.base (end_of layout.states) j k
    → LeavesOutside layout hidden i (slice_set k layout.clock now) b c
outside_passed layout i j k b c hidden now fits aged one two =
    let order : whole_end layout.policies ≤ layout.states.base = fits.order in
    let behind : end_of layout.states ≤ layout.clock = fits.behind in
    record {
      size = length-set k layout.clock now ∙ (two.size ∙ one.size);
      between = λ q h l.
          get_or-set_other k layout.clock q now 0 (λ (e : q ≡ layout.clock). omega (arith, e, l, order, behind))
          ∙ (two.between q h (omega (arith, l, order)) ∙ one.between q h l);
      above = λ q l.
          get_or-set_other k layout.clock q now 0 (λ (e : q ≡ layout.clock). omega (arith, e, l))
          ∙ (two.above q (omega (arith, l, behind)) ∙ one.above q (omega (arith, l, order, behind)));
      count = aged.count;
      turns = aged.held;
    }

-- ---- the reply

pub ticked : (layout : Layout) (j : List ℕ) (c : Beside) (m : Machine) (given time now : ℕ) (events : List Event) → now ≡ max time given → time ≡ m.shown.time
    → events ≡ events_at m now → Stands layout j c (at_time m now) → Answers layout j c m (Tick given) (reply.Ticked now events)
ticked layout j c m given time now events e t told st =
    let is : now ≡ max m.shown.time given = e ∙ ap (λ (n : ℕ). max n given) t in
    answers layout j c m (Tick given) (reply.Ticked now events)
    (ap (λ (es : List Event). reply.Ticked now es) told ∙ ap (λ (n : ℕ). reply.Ticked n (events_at m n)) is)
    (subst (λ (n : ℕ). Stands layout j c (at_time m n)) is st)
