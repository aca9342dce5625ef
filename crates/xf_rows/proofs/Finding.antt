-- From what a lookup among entries found to the machine's state, its own part and its value.
use Rattle.std.proofs.Common.{ℕ, ◌≡◌, Bool, true, List, [], ◌∷◌, ◌++◌, Option, None, Some, refl, ap, sym, ◌∙◌, subst, find, reverse, All}
use Rattle.std.proofs.lemmas.Option.{same_Some}
use Rattle.std.proofs.lemmas.List.{reverse-reverse}
use Rattle.std.proofs.lemmas.List.Elements.{All-head}
use Rattle.xf_types.specs.declared.state.Sa.{Sa}
use Rattle.xf_types.specs.Machine.{Machine, Own}
use Rattle.xf_types.specs.OwnParts.{own_of, new_own}
use Rattle.xf_types.specs.StateList.{last_of}
use Rattle.xf_index.specs.Finds.{found_in, slot_found, record_found, Found}
use Rattle.xf_index.proofs.Entries.{reverse_within}
use Rattle.xf_index.proofs.Finds.{found_record, found_splits}
use Rattle.xf_sadidx.specs.Founds.{latest_in}
use Rattle.xf_sadidx.proofs.FoundLaws.{latest_record}
use Rattle.xf_rows.specs.declared.layout.Layout.{Layout}
use Rattle.xf_rows.specs.Rows.{Row, entries_in, states_in, own_parts}
use Rattle.xf_rows.specs.Values.{Beside, Keeps, at}
use Rattle.xf_rows.specs.Stands.{Stands}
use Rattle.xf_rows.specs.Finds.{IsRow, FoundAt}
use Rattle.xf_rows.proofs.Lists.{all_back, own_one}
use Rattle.xf_rows.proofs.Leaving.{Aside, aside}

-- the row of an entry
pub record RowOf (rows : List Row) (slot : ℕ) (s : Sa) : Type 0 where
  pub row : Row
  pub place : IsRow rows row
  pub slot_is : row.0 ≡ slot
  pub state_is : row.1.0 ≡ s

first_slot : ℕ → List (ℕ × Sa) → ℕ
first_slot none [] = none
first_slot none (e ∷ es) = e.0

first_state : Sa → List (ℕ × Sa) → Sa
first_state none [] = none
first_state none (e ∷ es) = e.1

rest_of : List (ℕ × Sa) → List (ℕ × Sa)
rest_of [] = []
rest_of (e ∷ es) = es

-- an entry between others is that of a row between others
pub row_of : (rows : List Row) (front back : List (ℕ × Sa)) (slot : ℕ) (s : Sa) → entries_in rows ≡ front ++ ((slot, s) ∷ back) → RowOf rows slot s
unfolding first_slot first_state rest_of
row_of [] [] back slot s = λ e. absurd cc
row_of [] (f ∷ front) back slot s = λ e. absurd cc
row_of (r ∷ rows) [] back slot s = λ e. record {
  row = r;
  place = record { front = []; back = rows; whole = refl };
  slot_is = ap (λ (es : List (ℕ × Sa)). first_slot slot es) e;
  state_is = ap (λ (es : List (ℕ × Sa)). first_state s es) e;
}
row_of (r ∷ rows) (f ∷ front) back slot s = λ e.
    let t : RowOf rows slot s = row_of rows front back slot s (ap (λ (es : List (ℕ × Sa)). rest_of es) e) in
    record {
      row = t.row;
      place = record { front = r ∷ t.place.front; back = t.place.back; whole = ap (λ (xs : List Row). r ∷ xs) t.place.whole };
      slot_is = t.slot_is;
      state_is = t.state_is;
    }

-- the row of a listed state has its own part, and its value
pub row_found : (layout : Layout) (i : List ℕ) (b : Beside) (m : Machine) (test : Sa → Bool) (slot : ℕ) (s : Sa) (found : Option Sa) (r : Stands layout i b m)
    → RowOf r.rows slot s → test s ≡ true → found ≡ Some s → FoundAt b m r.rows test slot found
row_found layout i b m test slot s found r t passes is =
    let x : Row = t.row in
    let front : List Row = t.place.front in
    let back : List Row = t.place.back in
    let a : Aside x front back layout.states.slots = aside layout i b m x front back r t.place.whole in
    let none : Own = new_own x.1.0.spec in
    let keep : Keeps m.shown.time b x =
    All-head (Keeps m.shown.time b) x back
    (all_back (Keeps m.shown.time b) front (x ∷ back) (subst (λ (xs : List Row). All (Keeps m.shown.time b) xs) t.place.whole r.values.live)) in
    record {
      row = x;
      place = t.place;
      slot_is = t.slot_is;
      passes = ap test t.state_is ∙ passes;
      state = is ∙ ap (λ (y : Sa). Some y) (sym t.state_is);
      own = ap (λ (ss : List Sa). own_of x.1.0.sid ss m.own none) (sym r.on_states.listed) ∙ ap (λ (os : List Own). own_of x.1.0.sid (states_in r.rows) os none) (sym r.own)
          ∙ ap (λ (xs : List Row). own_of x.1.0.sid (states_in xs) (own_parts xs) none) t.place.whole ∙ own_one none x front back a.before;
      value = λ held. ap (at b) (sym t.slot_is) ∙ keep.value (subst (λ (n : ℕ). b.held n ≡ true) (sym t.slot_is) held);
    }

-- the first entry that passes
pub first_found : (layout : Layout) (i : List ℕ) (b : Beside) (m : Machine) (test : Sa → Bool) (slot : ℕ) (r : Stands layout i b m)
    → Some slot ≡ slot_found (found_in test (entries_in r.rows)) → FoundAt b m r.rows test slot (find test m.shown.states)
first_found layout i b m test slot r is = by (found_in test (entries_in r.rows)) refl
  where
    by : (o : Option (ℕ × Sa)) → found_in test (entries_in r.rows) ≡ o → FoundAt b m r.rows test slot (find test m.shown.states)
    by None e = let none : Some slot ≡ None = is ∙ ap (λ (o : Option (ℕ × Sa)). slot_found o) e in absurd (cc)
    by (Some y) e =
        let same : slot ≡ y.0 = same_Some slot y.0 (is ∙ ap (λ (o : Option (ℕ × Sa)). slot_found o) e) in
        let f : Found test y.0 y.1 (entries_in r.rows) = found_splits test (entries_in r.rows) y.0 y.1 e in
        let t : RowOf r.rows y.0 y.1 = row_of r.rows f.front f.back y.0 y.1 f.whole in
        row_found layout i b m test slot y.1 (find test m.shown.states) r (subst (λ (n : ℕ). RowOf r.rows n y.1) (sym same) t) f.passes
        (ap (λ (ss : List Sa). find test ss) (sym r.on_states.listed) ∙ sym (found_record test (entries_in r.rows)) ∙ ap (λ (o : Option (ℕ × Sa)). record_found o) e)

-- the last entry that passes
pub latest_found : (layout : Layout) (i : List ℕ) (b : Beside) (m : Machine) (test : Sa → Bool) (slot : ℕ) (r : Stands layout i b m)
    → Some slot ≡ slot_found (latest_in test (entries_in r.rows)) → FoundAt b m r.rows test slot (last_of test m.shown.states)
latest_found layout i b m test slot r is = by (latest_in test (entries_in r.rows)) refl
  where
    by : (o : Option (ℕ × Sa)) → latest_in test (entries_in r.rows) ≡ o → FoundAt b m r.rows test slot (last_of test m.shown.states)
    by None e = let none : Some slot ≡ None = is ∙ ap (λ (o : Option (ℕ × Sa)). slot_found o) e in absurd (cc)
    by (Some y) e =
        let es : List (ℕ × Sa) = entries_in r.rows in
        let same : slot ≡ y.0 = same_Some slot y.0 (is ∙ ap (λ (o : Option (ℕ × Sa)). slot_found o) e) in
        let f : Found test y.0 y.1 (reverse es) = found_splits test (reverse es) y.0 y.1 e in
        let whole : es ≡ reverse f.back ++ (y ∷ reverse f.front) =
        sym (reverse-reverse es) ∙ ap (λ (xs : List (ℕ × Sa)). reverse xs) f.whole ∙ reverse_within f.front f.back y in
        let t : RowOf r.rows y.0 y.1 = row_of r.rows (reverse f.back) (reverse f.front) y.0 y.1 whole in
        row_found layout i b m test slot y.1 (last_of test m.shown.states) r (subst (λ (n : ℕ). RowOf r.rows n y.1) (sym same) t) f.passes
        (ap (λ (ss : List Sa). last_of test ss) (sym r.on_states.listed) ∙ sym (latest_record test es) ∙ ap (λ (o : Option (ℕ × Sa)). record_found o) e)

-- where no entry passes, no state does
pub none_first : (layout : Layout) (i : List ℕ) (b : Beside) (m : Machine) (test : Sa → Bool) (r : Stands layout i b m)
    → slot_found (found_in test (entries_in r.rows)) ≡ None → find test m.shown.states ≡ None
none_first layout i b m test r is =
    ap (λ (ss : List Sa). find test ss) (sym r.on_states.listed) ∙ sym (found_record test (entries_in r.rows)) ∙ no_record (found_in test (entries_in r.rows)) is
  where
    no_record : (o : Option (ℕ × Sa)) → slot_found o ≡ None → record_found o ≡ None
    no_record None e = refl
    no_record (Some y) e = absurd (cc)

pub none_latest : (layout : Layout) (i : List ℕ) (b : Beside) (m : Machine) (test : Sa → Bool) (r : Stands layout i b m)
    → slot_found (latest_in test (entries_in r.rows)) ≡ None → last_of test m.shown.states ≡ None
none_latest layout i b m test r is =
    ap (λ (ss : List Sa). last_of test ss) (sym r.on_states.listed) ∙ sym (latest_record test (entries_in r.rows)) ∙ no_record (latest_in test (entries_in r.rows)) is
  where
    no_record : (o : Option (ℕ × Sa)) → slot_found o ≡ None → record_found o ≡ None
    no_record None e = refl
    no_record (Some y) e = absurd (cc)
