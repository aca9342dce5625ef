-- Words and values after one row is another one in its slot.
use Rattle.std.proofs.Common.{ℕ, ◌≡◌, ◌<◌, ◌≤◌, true, List, ◌∷◌, ◌++◌, length, refl, ap, sym, ◌∙◌, subst, All}
use Rattle.std.proofs.lemmas.List.{length-set}
use Rattle.std.proofs.lemmas.List.Elements.{All-head}
use Rattle.xf_types.specs.declared.state.Sa.{Sa}
use Rattle.xf_types.specs.Machine.{Machine, Shown, Own}
use Rattle.xf_types.specs.OwnParts.{own_put}
use Rattle.xf_types.specs.StateList.{changed}
use Rattle.xf_types.specs.Changes.{InPlace, machine_after}
use Rattle.xf_types.specs.OneState.{dying_if, put_back}
use Rattle.xf_types.specs.TrafficRules.{Fate, Same, Ends, Becomes}
use Rattle.xf_types.specs.IsMachine.{IsMachine}
use Rattle.xf_index.specs.Indexes.{records_in}
use Rattle.xf_image.specs.Frames.{Frame}
use Rattle.xf_sadidx.specs.Layout.{end_of}
use Rattle.xf_sadimage.specs.States.{StatesStand}
use Rattle.xf_rows.specs.declared.layout.Layout.{Layout}
use Rattle.xf_rows.specs.Layouts.{Fits}
use Rattle.xf_rows.specs.Rows.{Row, entries_in, states_in, own_parts, value_of}
use Rattle.xf_rows.specs.Values.{Beside, Keeps, AreValues, value_put}
use Rattle.xf_rows.specs.Stands.{Stands, machine_with}
use Rattle.xf_rows.specs.Fates.{entries_fated, value_fated}
use Rattle.xf_rows.proofs.Lists.{all_back, entries_append, own_append, changed_one, put_one}
use Rattle.xf_rows.proofs.Keeping.{policies_stay}
use Rattle.xf_rows.proofs.Valued.{changed_values, put_same}
use Rattle.xf_rows.proofs.Leaving.{Aside, aside, row_leaves}

-- the machine that lists these rows, where it is one
pub row_changes : (layout : Layout) (i j : List ℕ) (b : Beside) (m n : Machine) (x : Row) (p : Sa × Own) (front back : List Row) (r : Stands layout i b m)
    → Fits layout (length i) → Frame layout.states.base (end_of layout.states) i j → r.rows ≡ front ++ (x ∷ back)
    → StatesStand layout.states j (record m.shown { states = records_in (entries_in front ++ ((x.0, p.0) ∷ entries_in back)) })
    (entries_in front ++ ((x.0, p.0) ∷ entries_in back))
    → machine_with m.shown (front ++ ((x.0, p) ∷ back)) ≡ n → IsMachine n
    → Stands layout j (value_put b x.0 (value_of m.shown.time (x.0, p))) n
row_changes layout i j b m n x p front back r fits frame e st same machine =
    let a : Aside x front back layout.states.slots = aside layout i b m x front back r e in
    let behind : end_of layout.states ≤ layout.clock = fits.behind in
    let rows : List Row = front ++ ((x.0, p) ∷ back) in
    let within : x.0 < length b.values = subst (λ (k : ℕ). x.0 < k) (sym r.count) a.within in
    subst (λ (k : Machine). Stands layout j (value_put b x.0 (value_of m.shown.time (x.0, p))) k) same
    (record {
      policies = r.policies;
      rows = rows;
      on_policies = policies_stay layout i j m.shown (machine_with m.shown rows).shown r.policies fits frame
          (record { policies = refl; next_index = refl; next_number = refl; hthresh4 = refl; hthresh6 = refl; room = refl }) r.on_policies;
      on_states = subst (λ (es : List (ℕ × Sa)). StatesStand layout.states j (record m.shown { states = records_in es }) es) (sym (entries_append front ((x.0, p) ∷ back))) st;
      own = refl;
      time = frame.above layout.clock behind ∙ r.time;
      values = changed_values m.shown.time b x p front back within a.slots_before a.slots_behind (subst (λ (xs : List Row). AreValues b m.shown.time xs) e r.values);
      count = length-set b.values x.0 (value_of m.shown.time (x.0, p)) ∙ r.count;
      machine = subst (λ (k : Machine). IsMachine k) (sym same) machine;
    })

-- the machine with these records and own parts
abbrev pub machine_of : Shown → List Sa → List Own → Machine
machine_of s ss os = record { shown = record s { states = ss }; own = os }

same_machine : (s : Shown) (old new : List Sa) (was is : List Own) → old ≡ new → was ≡ is → machine_of s old was ≡ machine_of s new is
same_machine s old new was is e f = ap (λ (ss : List Sa). machine_of s ss was) e ∙ ap (λ (os : List Own). machine_of s new os) f

-- a record changes, and the own part stays
pub record_changes : (layout : Layout) (i j : List ℕ) (b : Beside) (m : Machine) (f : Sa → Sa) (x : Row) (front back : List Row) (r : Stands layout i b m)
    → Fits layout (length i) → Frame layout.states.base (end_of layout.states) i j → r.rows ≡ front ++ (x ∷ back)
    → StatesStand layout.states j (record m.shown { states = records_in (entries_in front ++ ((x.0, f x.1.0) ∷ entries_in back)) })
    (entries_in front ++ ((x.0, f x.1.0) ∷ entries_in back))
    → IsMachine (machine_after m (InPlace (record m.shown { states = changed x.1.0.sid f m.shown.states })))
    → Stands layout j (value_put b x.0 (value_of m.shown.time (x.0, (f x.1.0, x.1.1))))
    (machine_after m (InPlace (record m.shown { states = changed x.1.0.sid f m.shown.states })))
record_changes layout i j b m f x front back r fits frame e st machine =
    let a : Aside x front back layout.states.slots = aside layout i b m x front back r e in
    let rows : List Row = front ++ ((x.0, (f x.1.0, x.1.1)) ∷ back) in
    let ss : states_in rows ≡ changed x.1.0.sid f m.shown.states =
    sym (changed_one f x.1.1 x front back a.before a.behind) ∙ ap (λ (xs : List Row). changed x.1.0.sid f (states_in xs)) (sym e)
    ∙ ap (λ (xs : List Sa). changed x.1.0.sid f xs) r.on_states.listed in
    let os : own_parts rows ≡ m.own =
    own_append front ((x.0, (f x.1.0, x.1.1)) ∷ back) ∙ sym (own_append front (x ∷ back)) ∙ ap (λ (xs : List Row). own_parts xs) (sym e) ∙ r.own in
    row_changes layout i j b m (machine_after m (InPlace (record m.shown { states = changed x.1.0.sid f m.shown.states }))) x (f x.1.0, x.1.1) front back r fits frame e st
    (same_machine m.shown (states_in rows) (changed x.1.0.sid f m.shown.states) (own_parts rows) m.own ss os) machine

-- a state's fate
pub row_fated : (layout : Layout) (i j : List ℕ) (b : Beside) (m : Machine) (x : Row) (front back : List Row) (f : Fate) (r : Stands layout i b m)
    → Fits layout (length i) → Frame layout.states.base (end_of layout.states) i j → r.rows ≡ front ++ (x ∷ back) → b.held x.0 ≡ true
    → StatesStand layout.states j (record m.shown { states = records_in (entries_fated (entries_in front) x.0 x.1.0 (entries_in back) f) })
    (entries_fated (entries_in front) x.0 x.1.0 (entries_in back) f)
    → IsMachine (put_back m x.1.0 f)
    → Stands layout j (value_put b x.0 (value_fated m.shown.time x f)) (put_back m x.1.0 f)
row_fated layout i j b m x front back Same r fits frame e held st machine =
    let behind : end_of layout.states ≤ layout.clock = fits.behind in
    let keep : Keeps m.shown.time b x =
    All-head (Keeps m.shown.time b) x back (all_back (Keeps m.shown.time b) front (x ∷ back) (subst (λ (xs : List Row). All (Keeps m.shown.time b) xs) e r.values.live)) in
    let es : entries_in front ++ ((x.0, x.1.0) ∷ entries_in back) ≡ entries_in r.rows =
    sym (entries_append front (x ∷ back)) ∙ ap (λ (xs : List Row). entries_in xs) (sym e) in
    subst (λ (c : Beside). Stands layout j c m) (sym (put_same b x.0 (value_of m.shown.time x) (keep.value held)))
    (record {
      policies = r.policies;
      rows = r.rows;
      on_policies = policies_stay layout i j m.shown m.shown r.policies fits frame
          (record { policies = refl; next_index = refl; next_number = refl; hthresh4 = refl; hthresh6 = refl; room = refl }) r.on_policies;
      on_states = subst (λ (ss : List Sa). StatesStand layout.states j (record m.shown { states = ss }) (entries_in r.rows)) r.on_states.listed
          (subst (λ (xs : List (ℕ × Sa)). StatesStand layout.states j (record m.shown { states = records_in xs }) xs) es st);
      own = r.own;
      time = frame.above layout.clock behind ∙ r.time;
      values = r.values;
      count = r.count;
      machine = r.machine;
    })
row_fated layout i j b m x front back Ends r fits frame e held st machine = row_leaves layout i j b m x front back r fits frame e st
row_fated layout i j b m x front back (Becomes soft own) r fits frame e held st machine =
    let a : Aside x front back layout.states.slots = aside layout i b m x front back r e in
    let rows : List Row = front ++ ((x.0, (dying_if soft x.1.0, own)) ∷ back) in
    let ss : states_in rows ≡ changed x.1.0.sid (dying_if soft) m.shown.states =
    sym (changed_one (dying_if soft) own x front back a.before a.behind) ∙ ap (λ (xs : List Row). changed x.1.0.sid (dying_if soft) (states_in xs)) (sym e)
    ∙ ap (λ (xs : List Sa). changed x.1.0.sid (dying_if soft) xs) r.on_states.listed in
    let os : own_parts rows ≡ own_put x.1.0.sid own m.shown.states m.own =
    sym (put_one own (dying_if soft x.1.0) x front back a.before a.behind) ∙ ap (λ (xs : List Row). own_put x.1.0.sid own (states_in xs) (own_parts xs)) (sym e)
    ∙ ap (λ (xs : List Sa). own_put x.1.0.sid own xs (own_parts r.rows)) r.on_states.listed ∙ ap (λ (xs : List Own). own_put x.1.0.sid own m.shown.states xs) r.own in
    row_changes layout i j b m (put_back m x.1.0 (Becomes soft own)) x (dying_if soft x.1.0, own) front back r fits frame e st
    (same_machine m.shown (states_in rows) (changed x.1.0.sid (dying_if soft) m.shown.states) (own_parts rows) (own_put x.1.0.sid own m.shown.states m.own) ss os) machine
