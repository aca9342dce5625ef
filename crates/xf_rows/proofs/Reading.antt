-- Words and values tell the machine.
use Rattle.std.proofs.Common.{arith, ℕ, ◌≡◌, ◌+◌, ◌-◌, true, List, [], ◌∷◌, refl, ap, sym, ◌∙◌, Option, Some, All, filter_map, slice_index}
use Rattle.std.specs.List.{cons_option}
use Rattle.std.proofs.lemmas.List.Elements.{All-head, All-tail}
use Rattle.xf_types.specs.declared.state.Sa.{Sa}
use Rattle.xf_types.specs.Machine.{Machine, Shown, Own}
use Rattle.xf_index.specs.Indexes.{slots_in, records_in, Holds}
use Rattle.xf_index.proofs.Alls.{all_walk}
use Rattle.xf_image.specs.Layout as policies
use Rattle.xf_image.specs.Readings.{hthresh4_in, hthresh6_in}
use Rattle.xf_image.proofs.Listed.{listed_is}
use Rattle.xf_sadidx.specs.declared.area.StateArea.{StateArea}
use Rattle.xf_sadidx.specs.Layout as states
use Rattle.xf_sadimage.specs.States.{everyone, StatesStand}
use Rattle.xf_local.specs.View.{LocalView, own_part}
use Rattle.xf_rows.specs.declared.layout.Layout.{Layout}
use Rattle.xf_rows.specs.Rows.{Row, entries_in, own_parts}
use Rattle.xf_rows.specs.Values.{Beside, Keeps, at}
use Rattle.xf_rows.specs.Stands.{Stands}
use Rattle.xf_rows.specs.Readings.{policies_told, state_slots, states_told, own_told, shown_in, machine_in}
use Rattle.xf_rows.proofs.Lists.{row_slots}

-- the records in the slots are those of the entries
records_told : {A : Type 0} (read : ℕ → Option A) (es : List (ℕ × A)) → Holds read (λ (r : A). Some r) es → filter_map read (slots_in es) ≡ records_in es
records_told read [] h = refl
records_told {A = A} read (e ∷ es) h =
    ap (λ (o : Option A). cons_option o (filter_map read (slots_in es))) h.0 ∙ ap (λ (rs : List A). e.1 ∷ rs) (records_told read es h.1)

own_held : (time : ℕ) (b : Beside) (rows : List Row) → ((slot : ℕ) → b.held slot ≡ true) → All (Keeps time b) rows
    → filter_map (λ (slot : ℕ). own_part (at b slot)) (slots_in rows) ≡ own_parts rows
own_held time b [] = λ held keeps. refl
own_held time b (r ∷ rows) = λ held keeps.
    let keep : Keeps time b r = All-head (Keeps time b) r rows keeps in
    ap (λ (v : LocalView). cons_option (own_part v) (filter_map (λ (slot : ℕ). own_part (at b slot)) (slots_in rows))) (keep.value (held r.0))
    ∙ ap (λ (os : List Own). r.1.1 ∷ os) (own_held time b rows held (All-tail (Keeps time b) r rows keeps))

pub state_slots_are : (a : StateArea) (image : List ℕ) (s : Shown) (es : List (ℕ × Sa)) → StatesStand a image s es → state_slots a image ≡ slots_in es
state_slots_are a image s es st = all_walk (states.order_of a) image everyone es (λ x. refl) (omega arith) st.linked.order

lacks : (whole word len : ℕ) → word + len ≡ whole → len ≡ whole - word
lacks whole word len e = omega (arith, e)

abbrev pair_of : ℕ → ℕ → ℕ × ℕ
pair_of a b = (a, b)

two_same : (a b c d : ℕ) → a ≡ c → b ≡ d → pair_of a b ≡ pair_of c d
two_same a b c d e f = ap (λ (n : ℕ). pair_of n b) e ∙ ap (λ (n : ℕ). pair_of c n) f

-- what is shown is what the words tell
pub shown_told : (layout : Layout) (image : List ℕ) (b : Beside) (m : Machine) → Stands layout image b m → m.shown ≡ shown_in layout image
shown_told layout image b m r =
    let policy : policies_told layout.policies image ≡ m.shown.policies =
    ap (λ (xs : List ℕ). filter_map (λ (slot : ℕ). policies.record_at layout.policies image slot) xs) (listed_is layout.policies image m.shown r.policies r.on_policies.list)
    ∙ records_told (λ (slot : ℕ). policies.record_at layout.policies image slot) r.policies r.on_policies.list.columns.records ∙ r.on_policies.list.listed in
    let state : states_told layout.states image ≡ m.shown.states =
    ap (λ (xs : List ℕ). filter_map (λ (slot : ℕ). states.record_at layout.states image slot) xs) (state_slots_are layout.states image m.shown (entries_in r.rows) r.on_states)
    ∙ records_told (λ (slot : ℕ). states.record_at layout.states image slot) (entries_in r.rows) r.on_states.chained.records ∙ r.on_states.listed in
    let counters = r.on_policies.list.counters in
    let place : ℕ = policies.thresholds_place layout.policies in
    let four : m.shown.hthresh4 ≡ hthresh4_in layout.policies image =
    two_same m.shown.hthresh4.0 m.shown.hthresh4.1 (32 - slice_index image place) (32 - slice_index image (place + 1))
    (lacks 32 (slice_index image place) m.shown.hthresh4.0 counters.local4) (lacks 32 (slice_index image (place + 1)) m.shown.hthresh4.1 counters.remote4) in
    let six : m.shown.hthresh6 ≡ hthresh6_in layout.policies image =
    two_same m.shown.hthresh6.0 m.shown.hthresh6.1 (128 - slice_index image (place + 2)) (128 - slice_index image (place + 3))
    (lacks 128 (slice_index image (place + 2)) m.shown.hthresh6.0 counters.local6) (lacks 128 (slice_index image (place + 3)) m.shown.hthresh6.1 counters.remote6) in
    let index : m.shown.next_index ≡ slice_index image (policies.next_index_place layout.policies) + 1 = sym counters.next_index in
    let number : m.shown.next_number ≡ slice_index image (policies.next_number_place layout.policies) + 1 = sym counters.next_number in
    let seq : m.shown.next_seq ≡ slice_index image (states.next_seq_place layout.states) + 1 = sym r.on_states.counters.next_seq in
    let sid : m.shown.next_sid ≡ slice_index image (states.next_sid_place layout.states) + 1 = sym r.on_states.counters.next_sid in
    let clock : m.shown.time ≡ slice_index image layout.clock = sym r.time in
    let few : m.shown.max_policies ≡ layout.policies.slots = r.on_policies.list.room in
    let many : m.shown.max_states ≡ layout.states.slots = r.on_states.room in
    let ps : m.shown.policies ≡ policies_told layout.policies image = sym policy in
    let ss : m.shown.states ≡ states_told layout.states image = sym state in
    λ i. record {
      policies = ps i;
      states = ss i;
      next_index = index i;
      next_seq = seq i;
      next_sid = sid i;
      next_number = number i;
      hthresh4 = four i;
      hthresh6 = six i;
      time = clock i;
      max_policies = few i;
      max_states = many i;
    }

-- where all turns are held the own parts are too
pub machine_told : (layout : Layout) (image : List ℕ) (b : Beside) (m : Machine) → Stands layout image b m → ((slot : ℕ) → b.held slot ≡ true)
    → m ≡ machine_in layout image b.values
machine_told layout image b m r held =
    let s : m.shown ≡ shown_in layout image = shown_told layout image b m r in
    let own : m.own ≡ own_told layout.states image b.values =
    sym (ap (λ (xs : List ℕ). filter_map (λ (slot : ℕ). own_part (at b slot)) xs)
    (state_slots_are layout.states image m.shown (entries_in r.rows) r.on_states ∙ row_slots r.rows)
    ∙ own_held m.shown.time b r.rows held r.values.live ∙ r.own) in
    λ i. record { shown = s i; own = own i }
