-- Words and values at a later time.
use Rattle.std.proofs.Common.{ℕ, ◌≡◌, ◌≢◌, ◌<◌, ◌==◌, Bool, true, false, not, List, [], ◌∷◌, length, map, refl, ap, sym, ◌∙◌, subst, cond, All, eqb-true, eq-eqb, slice_index, ◌++◌, None, Some, filter_map}
use Rattle.std.specs.List.{cons_option}
use Rattle.std.specs.Prelude.{zip}
use Rattle.std.proofs.lemmas.List.Elements.{All-nil, All-cons, All-head, All-tail}
use Rattle.xf_types.specs.declared.call.Event.{Event}
use Rattle.xf_types.specs.declared.call.Event.TheVariants.{StateSoft, StateExpired}
use Rattle.xf_types.specs.OneState.{dying_if}
use Rattle.xf_types.specs.declared.policy.Policy.{Policy}
use Rattle.xf_types.specs.declared.state.Sa.{Sa}
use Rattle.xf_types.specs.Machine.{Machine, Own}
use Rattle.xf_types.specs.PolicyList.{without}
use Rattle.xf_types.specs.TickRules.{state_ends, state_later, own_part, staying, with_own, at_time, policy_ends, policy_later, state_event, state_warns}
use Rattle.xf_types.specs.IsMachine.{IsMachine, IsOwnOf}
use Rattle.xf_laws.proofs.Lasting.{Lasts, HoldsBy}
use Rattle.xf_laws.proofs.StateKeepLemmas.{own-of-kind, own-new}
use Rattle.xf_laws.proofs.TickKeepLemmas.{at_time-kept}
use Rattle.xf_local.specs.View.{LocalView, Dead, aged, event_of}
use Rattle.xf_chain.specs.Lists.{Misses, Within}
use Rattle.xf_index.specs.Indexes.{slots_in, records_in}
use Rattle.xf_inexact.specs.Whole.{SpdStands}
use Rattle.xf_sadimage.specs.States.{StatesStand}
use Rattle.xf_sadimage.proofs.Keeping as states
use Rattle.xf_rows.specs.declared.layout.Layout.{Layout}
use Rattle.xf_rows.specs.Rows.{Row, entries_in, states_in, own_parts, value_of}
use Rattle.xf_rows.specs.Values.{Beside, Keeps, AreValues, at}
use Rattle.xf_rows.specs.Stands.{Stands}
use Rattle.xf_rows.specs.Ticks.{row_ends, row_later, rows_later, AreAged, entry_later}
use Rattle.xf_rows.proofs.Lists.{row_slots, row_pairs}
use Rattle.xf_rows.proofs.Keeping.{policies_alike}

at_aged : (now : ℕ) (b c : Beside) (slot : ℕ) → AreAged now b c → slot < length b.values → c.held slot ≡ true → at c slot ≡ aged now (at b slot)
at_aged now b c slot g within held = g.later slot within (subst (λ (h : ℕ → Bool). h slot ≡ true) g.held held)

-- a row that stays has its value aged
one_later : (now time : ℕ) (b c : Beside) (r : Row) → AreAged now b c → r.0 < length b.values → row_ends now r ≡ false → Keeps time b r → Keeps now c (row_later now r)
one_later now time b c r g within stays keep = record {
  value = λ held.
      at_aged now b c r.0 g within held ∙ ap (λ (v : LocalView). aged now v) (keep.value (subst (λ (h : ℕ → Bool). h r.0 ≡ true) g.held held))
      ∙ ap (λ (t : Bool). cond t Dead (value_of now (row_later now r))) stays;
}

live_later : (now time : ℕ) (b c : Beside) (rows : List Row) → AreAged now b c → Within (length b.values) (slots_in rows) → All (Keeps time b) rows
    → All (Keeps now c) (rows_later now rows)
live_later now time b c [] = λ g w keeps. All-nil (Keeps now c)
live_later now time b c (r ∷ rows) = λ g w keeps.
    let rest : All (Keeps now c) (rows_later now rows) = live_later now time b c rows g w.1 (All-tail (Keeps time b) r rows keeps) in
    elim (row_ends now r) as (λ t. row_ends now r ≡ t → All (Keeps now c) (map (row_later now) (cond (not t) (r ∷ without (row_ends now) rows) (without (row_ends now) rows)))) [
      | true ↦ λ is. rest
      | false ↦ λ is. All-cons (Keeps now c) (row_later now r) (rows_later now rows) (one_later now time b c r g w.0 is (All-head (Keeps time b) r rows keeps)) rest
    ] refl

-- the slot of a row that ends is dead
ended_slot : (now time : ℕ) (b : Beside) (slot : ℕ) (r : Row) → b.held slot ≡ true → row_ends now r ≡ true → Keeps time b r
    → (slot ≢ r.0 → aged now (at b slot) ≡ Dead) → aged now (at b slot) ≡ Dead
ended_slot now time b slot r held is keep rest =
    elim (slot == r.0) as (λ t. (slot == r.0) ≡ t → aged now (at b slot) ≡ Dead) [
      | true ↦ λ e.
          let s : slot ≡ r.0 = eqb-true slot r.0 e in
          ap (λ (k : ℕ). aged now (at b k)) s ∙ ap (λ (v : LocalView). aged now v) (keep.value (subst (λ (k : ℕ). b.held k ≡ true) s held))
          ∙ ap (λ (t : Bool). cond t Dead (value_of now (row_later now r))) is
      | false ↦ λ e. rest (λ s. let t = eq-eqb slot r.0 s in absurd cc)
    ] refl

-- a slot of no row at the later time is dead: it was, or its row ended
dead_later : (now time : ℕ) (b : Beside) (slot : ℕ) (rows : List Row) → b.held slot ≡ true
    → All (Keeps time b) rows → (Misses slot (slots_in rows) → at b slot ≡ Dead) → Misses slot (slots_in (rows_later now rows))
    → aged now (at b slot) ≡ Dead
dead_later now time b slot [] = λ held keeps dead m. ap (λ (v : LocalView). aged now v) (dead tt)
dead_later now time b slot (r ∷ rows) = λ held keeps dead.
    let keep : Keeps time b r = All-head (Keeps time b) r rows keeps in
    let tail : All (Keeps time b) rows = All-tail (Keeps time b) r rows keeps in
    elim (row_ends now r) as (λ t. row_ends now r ≡ t → Misses slot (slots_in (map (row_later now) (cond (not t) (r ∷ without (row_ends now) rows) (without (row_ends now) rows)))) → aged now (at b slot) ≡ Dead) [
      | true ↦ λ is m. ended_slot now time b slot r held is keep (λ n. dead_later now time b slot rows held tail (λ o. dead (n, o)) m)
      | false ↦ λ is m. dead_later now time b slot rows held tail (λ n. dead (m.0, n)) m.1
    ] refl

-- the values at a later time are those of the rows at that time
pub values_later : (now time : ℕ) (b c : Beside) (rows : List Row) → AreAged now b c → Within (length b.values) (slots_in rows) → AreValues b time rows
    → AreValues c now (rows_later now rows)
values_later now time b c rows g within are = record {
  live = live_later now time b c rows g within are.live;
  dead = λ slot w held m.
      let x : slot < length b.values = subst (λ (n : ℕ). slot < n) g.count w in
      let mine : b.held slot ≡ true = subst (λ (h : ℕ → Bool). h slot ≡ true) g.held held in
      at_aged now b c slot g x held ∙ dead_later now time b slot rows mine are.live (are.dead slot x mine) m;
}

-- records and own parts of the rows that are left
states_mapped : (now : ℕ) (rows : List Row) → states_in (map (row_later now) rows) ≡ map (state_later now) (records_in rows)
states_mapped now [] = refl
states_mapped now (r ∷ rows) = ap (λ (xs : List Sa). state_later now r.1 ∷ xs) (states_mapped now rows)

own_mapped : (now : ℕ) (rows : List Row) → own_parts (map (row_later now) rows) ≡ map own_part (records_in rows)
own_mapped now [] = refl
own_mapped now (r ∷ rows) = ap (λ (xs : List Own). r.1.1 ∷ xs) (own_mapped now rows)

pairs_left : (now : ℕ) (rows : List Row) → records_in (without (row_ends now) rows) ≡ without (state_ends now) (records_in rows)
pairs_left now [] = refl
pairs_left now (r ∷ rows) =
    elim (state_ends now r.1) as (λ b. records_in (cond (not b) (r ∷ without (row_ends now) rows) (without (row_ends now) rows))
    ≡ cond (not b) (r.1 ∷ without (state_ends now) (records_in rows)) (without (state_ends now) (records_in rows))) [
      | true ↦ pairs_left now rows
      | false ↦ ap (λ (xs : List (Sa × Own)). r.1 ∷ xs) (pairs_left now rows)
    ]

-- the machine's states with their own parts are what the rows have
pub pairs_are : (layout : Layout) (i : List ℕ) (b : Beside) (m : Machine) (r : Stands layout i b m) → with_own m ≡ records_in r.rows
pairs_are layout i b m r =
    sym (ap (λ (ss : List Sa). zip ss (own_parts r.rows)) r.on_states.listed ∙ ap (λ (os : List Own). zip m.shown.states os) r.own) ∙ row_pairs r.rows

staying_are : (layout : Layout) (i : List ℕ) (b : Beside) (m : Machine) (now : ℕ) (r : Stands layout i b m)
    → records_in (without (row_ends now) r.rows) ≡ staying m now
staying_are layout i b m now r = pairs_left now r.rows ∙ ap (λ (xs : List (Sa × Own)). without (state_ends now) xs) (sym (pairs_are layout i b m r))

-- what holds of every machine holds at a later time
pub later_machine : (m : Machine) (now : ℕ) → IsMachine m → IsMachine (at_time m now)
later_machine m now is =
    let all : Lasts IsOwnOf m = record {
      shown = is.shown;
      own = is.own;
      steady = record { records = λ x y o sid kind. own-of-kind x y o kind; begins = λ x e. own-new x };
    } in
    let kept : HoldsBy IsOwnOf (at_time m now) = at_time-kept IsOwnOf m now all in
    record { shown = kept.shown; own = kept.own }

-- the words stand for the lists at a later time, and the values are aged
pub stands_later : (layout : Layout) (i j : List ℕ) (b c : Beside) (m : Machine) (now : ℕ) (es : List (ℕ × Policy)) (r : Stands layout i b m)
    → SpdStands layout.policies j (record m.shown { policies = map (policy_later now) (without (policy_ends now) m.shown.policies) }) es
    → StatesStand layout.states j (record m.shown { states = records_in (entries_in (rows_later now r.rows)) }) (entries_in (rows_later now r.rows))
    → slice_index j layout.clock ≡ now → AreAged now b c
    → Stands layout j c (at_time m now)
stands_later layout i j b c m now es r pol sta time g =
    let within : Within (length b.values) (slots_in r.rows) =
    subst (λ (n : ℕ). Within n (slots_in r.rows)) (sym r.count) (subst (λ (xs : List ℕ). Within layout.states.slots xs) (row_slots r.rows) r.on_states.chained.within) in
    let ss : states_in (rows_later now r.rows) ≡ map (state_later now) (staying m now) =
    states_mapped now (without (row_ends now) r.rows) ∙ ap (λ (xs : List (Sa × Own)). map (state_later now) xs) (staying_are layout i b m now r) in
    record {
      policies = es;
      rows = rows_later now r.rows;
      on_policies = policies_alike layout.policies j (record m.shown { policies = map (policy_later now) (without (policy_ends now) m.shown.policies) }) (at_time m now).shown es
          (record { policies = refl; next_index = refl; next_number = refl; hthresh4 = refl; hthresh6 = refl; room = refl }) pol;
      on_states = states.stands_alike layout.states j (record m.shown { states = states_in (rows_later now r.rows) }) (at_time m now).shown (entries_in (rows_later now r.rows))
          (record { states = sym ss; next_seq = refl; next_sid = refl; room = refl }) sta;
      own = own_mapped now (without (row_ends now) r.rows) ∙ ap (λ (xs : List (Sa × Own)). map own_part xs) (staying_are layout i b m now r);
      time = time;
      values = values_later now m.shown.time b c r.rows g within r.values;
      count = g.count ∙ r.count;
      machine = later_machine m now r.machine;
    }

-- the events that the slots' values tell
events_held : (now time : ℕ) (b : Beside) (rows : List Row) → All (λ (slot : ℕ). b.held slot ≡ true) (slots_in rows) → All (Keeps time b) rows
    → filter_map (λ (slot : ℕ). event_of now (at b slot)) (slots_in rows) ≡ filter_map (state_event now) (records_in rows)
events_held now time b [] = λ held keeps. refl
events_held now time b (r ∷ rows) = λ held keeps.
    let keep : Keeps time b r = All-head (Keeps time b) r rows keeps in
    let mine : b.held r.0 ≡ true = All-head (λ (slot : ℕ). b.held slot ≡ true) r.0 (slots_in rows) held in
    let rest : All (λ (slot : ℕ). b.held slot ≡ true) (slots_in rows) = All-tail (λ (slot : ℕ). b.held slot ≡ true) r.0 (slots_in rows) held in
    ap (λ (v : LocalView). cons_option (event_of now v) (filter_map (λ (slot : ℕ). event_of now (at b slot)) (slots_in rows))) (keep.value mine)
    ∙ ap (λ (es : List Event). cons_option (state_event now r.1) es) (events_held now time b rows rest (All-tail (Keeps time b) r rows keeps))

pub events_are : (layout : Layout) (i : List ℕ) (b : Beside) (m : Machine) (now : ℕ) (r : Stands layout i b m)
    → All (λ (slot : ℕ). b.held slot ≡ true) (slots_in (entries_in r.rows))
    → filter_map (λ (slot : ℕ). event_of now (at b slot)) (slots_in (entries_in r.rows)) ≡ filter_map (state_event now) (with_own m)
events_are layout i b m now r held =
    ap (λ (xs : List ℕ). filter_map (λ (slot : ℕ). event_of now (at b slot)) xs) (row_slots r.rows)
    ∙ events_held now m.shown.time b r.rows (subst (λ (xs : List ℕ). All (λ (slot : ℕ). b.held slot ≡ true) xs) (row_slots r.rows) held) r.values.live
    ∙ ap (λ (xs : List (Sa × Own)). filter_map (state_event now) xs) (sym (pairs_are layout i b m r))

-- one entry after another at a later time
pub walk_later : (now : ℕ) (x : Row) (rows : List Row)
    → entries_in (rows_later now (x ∷ rows)) ≡ entry_later (state_event now x.1) (x.0, x.1.0) ++ entries_in (rows_later now rows)
walk_later now x rows =
    elim (state_ends now x.1) as (λ b. entries_in (map (row_later now) (cond (not b) (x ∷ without (row_ends now) rows) (without (row_ends now) rows)))
    ≡ entry_later (cond b (Some (StateExpired x.1.0.sid)) (cond (state_warns now x.1) (Some (StateSoft x.1.0.sid)) None)) (x.0, x.1.0)
    ++ entries_in (rows_later now rows)) [
      | true ↦ refl
      | false ↦
          elim (state_warns now x.1) as (λ c. (x.0, dying_if c x.1.0) ∷ entries_in (rows_later now rows)
          ≡ entry_later (cond c (Some (StateSoft x.1.0.sid)) None) (x.0, x.1.0) ++ entries_in (rows_later now rows)) [ true ↦ refl | false ↦ refl ]
    ]
