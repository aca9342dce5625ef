-- Words and values after rows left, and after one came.
use Rattle.std.proofs.Common.{ℕ, ◌≡◌, ◌<◌, ◌≤◌, Bool, List, [], ◌∷◌, ◌++◌, length, refl, ap, sym, ◌∙◌, subst, Option, None, Some, AllPairs}
use Rattle.std.proofs.lemmas.List.{length-set}
use Rattle.xf_types.specs.declared.state.Sa.{Sa}
use Rattle.xf_types.specs.Machine.{Machine, Shown, Own}
use Rattle.xf_types.specs.PolicyList.{without}
use Rattle.xf_types.specs.OwnParts.{own_without, new_own}
use Rattle.xf_types.specs.StateList.{has_sid}
use Rattle.xf_types.specs.Changes.{NewState, LeaveThen, machine_after, without_states, without_then}
use Rattle.xf_types.specs.IsMachine.{IsMachine, IsOwnOf}
use Rattle.xf_laws.specs.OwnLaws.{added_record}
use Rattle.xf_local.specs.View.{Dead}
use Rattle.xf_laws.proofs.StateKeepLemmas.{shown-without_states, own-without}
use Rattle.xf_chain.specs.Lists.{Misses, Apart, Within}
use Rattle.xf_chain.proofs.Slots.{misses_front, misses_back, misses_others, within_back}
use Rattle.xf_index.specs.Indexes.{slots_in, records_in}
use Rattle.xf_index.proofs.Entries.{slots_append}
use Rattle.xf_image.specs.Frames.{Frame}
use Rattle.xf_sadidx.specs.Layout.{end_of}
use Rattle.xf_sadimage.specs.States.{StatesStand}
use Rattle.xf_rows.specs.declared.layout.Layout.{Layout}
use Rattle.xf_rows.specs.Layouts.{Fits}
use Rattle.xf_rows.specs.Rows.{Row, entries_in, states_in, own_parts, on_row}
use Rattle.xf_rows.specs.Values.{Beside, value_put}
use Rattle.xf_rows.specs.Stands.{Stands}
use Rattle.xf_rows.specs.Changes.{is_slot, entries_but, TellAlike, AreEnded, ended, new_row, new_value, acquiring}
use Rattle.xf_rows.proofs.Lists.{NoneHas, Differ, none_before, none_behind, one_left, alike_one, row_slots, left_states, left_own, left_entries, entries_append, own_append}
use Rattle.xf_rows.proofs.Keeping.{policies_stay}
use Rattle.xf_rows.proofs.Valued.{one_ended, ended_count, left_values, missed_still, last_values}

-- a row among others: no other has its state id or its slot
pub record Aside (x : Row) (front back : List Row) (slots : ℕ) : Type 0 where
  pub before : NoneHas x.1.0.sid front
  pub behind : NoneHas x.1.0.sid back
  pub slots_before : Misses x.0 (slots_in front)
  pub slots_behind : Misses x.0 (slots_in back)
  pub within : x.0 < slots

pub aside : (layout : Layout) (i : List ℕ) (b : Beside) (m : Machine) (x : Row) (front back : List Row) (r : Stands layout i b m)
    → r.rows ≡ front ++ (x ∷ back) → Aside x front back layout.states.slots
aside layout i b m x front back r e =
    let pairs : AllPairs Differ (states_in (front ++ (x ∷ back))) =
    subst (λ (xs : List Row). AllPairs Differ (states_in xs)) e
    (subst (λ (ss : List Sa). AllPairs Differ ss) (sym r.on_states.listed) r.machine.shown.states.sids) in
    let apart : Apart (slots_in front ++ (x.0 ∷ slots_in back)) =
    subst (λ (xs : List ℕ). Apart xs) (slots_append front (x ∷ back))
    (subst (λ (xs : List Row). Apart (slots_in xs)) e (subst (λ (xs : List ℕ). Apart xs) (row_slots r.rows) r.on_states.chained.apart)) in
    let within : Within layout.states.slots (slots_in front ++ (x.0 ∷ slots_in back)) =
    subst (λ (xs : List ℕ). Within layout.states.slots xs) (slots_append front (x ∷ back))
    (subst (λ (xs : List Row). Within layout.states.slots (slots_in xs)) e
    (subst (λ (xs : List ℕ). Within layout.states.slots xs) (row_slots r.rows) r.on_states.chained.within)) in
    let others : Misses x.0 (slots_in front ++ slots_in back) = misses_others x.0 (slots_in front) (slots_in back) apart in
    let last : Within layout.states.slots (x.0 ∷ slots_in back) = within_back layout.states.slots (slots_in front) (x.0 ∷ slots_in back) within in
    record {
      before = none_before front back x pairs;
      behind = none_behind front back x pairs;
      slots_before = misses_front x.0 (slots_in front) (slots_in back) others;
      slots_behind = misses_back x.0 (slots_in front) (slots_in back) others;
      within = last.0;
    }

-- what holds of every machine holds once some states left
pub left_machine : (m : Machine) (leaves : Sa → Bool) → IsMachine m → IsMachine (machine_after m (LeaveThen m.shown leaves None))
left_machine m leaves is = record {
  shown = shown-without_states m.shown leaves is.shown;
  own = own-without IsOwnOf leaves m.shown.states m.own is.own;
}

-- some rows left
pub rows_leave : (layout : Layout) (i j : List ℕ) (b c : Beside) (m : Machine) (leaves : Sa → Bool) (gone : ℕ → Bool) (r : Stands layout i b m)
    → Fits layout (length i) → Frame layout.states.base (end_of layout.states) i j
    → TellAlike leaves gone (entries_in r.rows) → AreEnded gone b c
    → StatesStand layout.states j (without_states m.shown leaves) (without (λ (e : ℕ × Sa). gone e.0) (entries_in r.rows))
    → Stands layout j c (machine_after m (LeaveThen m.shown leaves None))
rows_leave layout i j b c m leaves gone r fits frame alike end st =
    let behind : end_of layout.states ≤ layout.clock = fits.behind in
    record {
      policies = r.policies;
      rows = without (on_row leaves) r.rows;
      on_policies = policies_stay layout i j m.shown (without_states m.shown leaves) r.policies fits frame
          (record { policies = refl; next_index = refl; next_number = refl; hthresh4 = refl; hthresh6 = refl; room = refl }) r.on_policies;
      on_states = subst (λ (es : List (ℕ × Sa)). StatesStand layout.states j (without_states m.shown leaves) es) (sym (left_entries leaves gone r.rows alike)) st;
      own = left_own leaves r.rows ∙ ap (λ (ss : List Sa). own_without leaves ss (own_parts r.rows)) r.on_states.listed ∙ ap (λ (os : List Own). own_without leaves m.shown.states os) r.own;
      time = frame.above layout.clock behind ∙ r.time;
      values = left_values m.shown.time b c leaves gone r.rows end alike r.values;
      count = end.count ∙ r.count;
      machine = left_machine m leaves r.machine;
    }

-- one row left
pub row_leaves : (layout : Layout) (i j : List ℕ) (b : Beside) (m : Machine) (x : Row) (front back : List Row) (r : Stands layout i b m)
    → Fits layout (length i) → Frame layout.states.base (end_of layout.states) i j → r.rows ≡ front ++ (x ∷ back)
    → StatesStand layout.states j (record m.shown { states = records_in (entries_in front ++ entries_in back) }) (entries_in front ++ entries_in back)
    → Stands layout j (value_put b x.0 Dead) (machine_after m (LeaveThen m.shown (has_sid x.1.0.sid) None))
row_leaves layout i j b m x front back r fits frame e st =
    let a : Aside x front back layout.states.slots = aside layout i b m x front back r e in
    let leaves : Sa → Bool = has_sid x.1.0.sid in
    let gone : ℕ → Bool = is_slot (Some x.0) in
    let alike : TellAlike leaves gone (entries_in r.rows) =
    subst (λ (xs : List Row). TellAlike leaves gone (entries_in xs)) (sym e) (alike_one x front back a.before a.behind a.slots_before a.slots_behind) in
    let rows : without (on_row leaves) r.rows ≡ front ++ back = ap (λ (xs : List Row). without (on_row leaves) xs) e ∙ one_left x front back a.before a.behind in
    let left : entries_in (without (on_row leaves) r.rows) ≡ entries_in front ++ entries_in back = ap (λ (xs : List Row). entries_in xs) rows ∙ entries_append front back in
    let es : without (λ (y : ℕ × Sa). gone y.0) (entries_in r.rows) ≡ entries_in front ++ entries_in back = sym (left_entries leaves gone r.rows alike) ∙ left in
    let ss : without leaves m.shown.states ≡ records_in (entries_in front ++ entries_in back) =
    ap (λ (xs : List Sa). without leaves xs) (sym r.on_states.listed) ∙ sym (left_states leaves r.rows) ∙ ap (λ (xs : List (ℕ × Sa)). records_in xs) left in
    rows_leave layout i j b (ended b (Some x.0)) m leaves gone r fits frame alike (one_ended b (Some x.0))
    (subst (λ (xs : List (ℕ × Sa)). StatesStand layout.states j (without_states m.shown leaves) xs) (sym es)
    (subst (λ (xs : List Sa). StatesStand layout.states j (record m.shown { states = xs }) (entries_in front ++ entries_in back)) (sym ss) st))

-- at most one row left, and one came last, in a slot that was free
pub row_comes : (layout : Layout) (i j : List ℕ) (b : Beside) (m : Machine) (seq : ℕ) (leaves : Sa → Bool) (gone : Option ℕ) (new : NewState) (slot : ℕ)
    (r : Stands layout i b m)
    → Fits layout (length i) → Frame layout.states.base (end_of layout.states) i j
    → TellAlike leaves (is_slot gone) (entries_in r.rows) → slot < layout.states.slots → Misses slot (slots_in (entries_in r.rows))
    → StatesStand layout.states j (without_then (acquiring m.shown seq) leaves (Some new))
    (entries_but gone (entries_in r.rows) ++ ((slot, added_record (acquiring m.shown seq) new) ∷ []))
    → IsMachine (machine_after m (LeaveThen (acquiring m.shown seq) leaves (Some new)))
    → Stands layout j (value_put (ended b gone) slot (new_value (acquiring m.shown seq) new)) (machine_after m (LeaveThen (acquiring m.shown seq) leaves (Some new)))
row_comes layout i j b m seq leaves gone new slot r fits frame alike below miss st machine =
    let behind : end_of layout.states ≤ layout.clock = fits.behind in
    let s : Shown = acquiring m.shown seq in
    let x : Row = new_row s new slot in
    let left : List Row = without (on_row leaves) r.rows in
    let c : Beside = ended b gone in
    let free : Misses slot (slots_in r.rows) = subst (λ (xs : List ℕ). Misses slot xs) (row_slots r.rows) miss in
    let within : slot < length c.values = subst (λ (n : ℕ). slot < n) (sym (ended_count b gone ∙ r.count)) below in
    let es : entries_in (left ++ (x ∷ [])) ≡ entries_but gone (entries_in r.rows) ++ ((slot, added_record s new) ∷ []) =
    entries_append left (x ∷ []) ∙ ap (λ (xs : List (ℕ × Sa)). xs ++ ((slot, added_record s new) ∷ [])) (left_entries leaves (is_slot gone) r.rows alike) in
    record {
      policies = r.policies;
      rows = left ++ (x ∷ []);
      on_policies = policies_stay layout i j m.shown (without_then s leaves (Some new)) r.policies fits frame
          (record { policies = refl; next_index = refl; next_number = refl; hthresh4 = refl; hthresh6 = refl; room = refl }) r.on_policies;
      on_states = subst (λ (xs : List (ℕ × Sa)). StatesStand layout.states j (without_then s leaves (Some new)) xs) (sym es) st;
      own = own_append left (x ∷ [])
          ∙ ap (λ (os : List Own). os ++ (new_own new.spec ∷ []))
          (left_own leaves r.rows ∙ ap (λ (ss : List Sa). own_without leaves ss (own_parts r.rows)) r.on_states.listed ∙ ap (λ (os : List Own). own_without leaves m.shown.states os) r.own);
      time = frame.above layout.clock behind ∙ r.time;
      values = last_values m.shown.time c x left within (missed_still leaves slot r.rows free)
          (left_values m.shown.time b c leaves (is_slot gone) r.rows (one_ended b gone) alike r.values);
      count = length-set c.values slot (new_value s new) ∙ ended_count b gone ∙ r.count;
      machine = machine;
    }

-- a row's state id and its slot name the same entry
pub row_named : (layout : Layout) (i : List ℕ) (b : Beside) (m : Machine) (x : Row) (front back : List Row) (r : Stands layout i b m)
    → r.rows ≡ front ++ (x ∷ back) → TellAlike (has_sid x.1.0.sid) (is_slot (Some x.0)) (entries_in r.rows)
row_named layout i b m x front back r e =
    let a : Aside x front back layout.states.slots = aside layout i b m x front back r e in
    subst (λ (xs : List Row). TellAlike (has_sid x.1.0.sid) (is_slot (Some x.0)) (entries_in xs)) (sym e)
    (alike_one x front back a.before a.behind a.slots_before a.slots_behind)
