-- Good words stand, with values beside them, for each machine that shows what is told and has the own parts that the values have; and words that stand for a
-- machine are good, where the statuses and the ids are right.
use Rattle.std.proofs.Common.{◌≡◌, ◌≢◌, ℕ, ◌+◌, ◌<◌, Bool, true, false, List, [], ◌∷◌, length, refl, sym, ap, ◌∙◌, subst, arith, All, AllPairs, Option, None, option_map, slice_index, cond, eq-eqb, ne_eqb, inl, inr, ◌⊎◌, replicate}
use Rattle.std.proofs.lemmas.List.{length-replicate}
use Rattle.std.proofs.lemmas.List.Elements.{All-nil, All-cons, All-head, All-tail}
use Rattle.xf_types.specs.declared.state.Sa.{Sa}
use Rattle.xf_types.specs.ChangeIds.{ChangeIds}
use Rattle.xf_types.specs.Machine.{Machine, Shown, Own}
use Rattle.xf_types.specs.OwnParts.{own_of, own_in, new_own}
use Rattle.xf_types.specs.IsMachine.{IsMachine, IsShownPart, AreOwn}
use Rattle.xf_types.specs.Standing.{Nothing, OneState}
use Rattle.xf_laws.proofs.ListLemmas.{AllPairs-head, AllPairs-tail}
use Rattle.xf_laws.proofs.StateKeepLemmas.{own-new}
use Rattle.xf_chain.specs.Lists.{Misses}
use Rattle.xf_index.specs.Indexes.{slots_in, records_in}
use Rattle.xf_inexact.specs.Whole.{SpdStands}
use Rattle.xf_image.proofs.Listed.{listed_is}
use Rattle.xf_sadimage.specs.States.{StatesStand}
use Rattle.xf_local.specs.View.{LocalView, Dead, Live, standing_of as value_standing}
use Rattle.xf_rows.specs.Rows.{Row, entries_in, states_in, own_parts}
use Rattle.xf_rows.specs.Values.{Beside, at, Keeps}
use Rattle.xf_rows.specs.Stands.{Stands}
use Rattle.xf_rows.specs.Readings.{shown_in}
use Rattle.xf_rows.proofs.Lists.{row_slots}
use Rattle.xf_rows.proofs.Reading.{state_slots_are, shown_told}
use Rattle.xf_invariant.specs.Meaning.{Told, told}
use Rattle.xf_ownpart.specs.OwnPart.{listed_at, standing_of, with_own}
use Rattle.xf_meaning.specs.Places.{policies_of, states_of, layout_of, size_of}
use Rattle.xf_meaning.specs.Marks.{AreMarked, AreIds, is_marked}
use Rattle.xf_meaning.specs.Good.{Good}
use Rattle.xf_meaning.specs.Tells.{state_there, lists}
use Rattle.xf_meaning.specs.Beside.{AreBeside, MarksStand}
use Rattle.xf_meaning.proofs.Entries.{IsEntry, entry_within}
use Rattle.xf_meaning.proofs.Marked.{Marked, marked_says, told_false}
use Rattle.xf_meaning.proofs.Listing.{lists_entry}

-- ---- entries beside own parts are rows

rows_of : List (ℕ × Sa) → List Own → List Row
rows_of [] own = []
rows_of (e ∷ es) [] = []
rows_of (e ∷ es) (o ∷ own) = (e.0, (e.1, o)) ∷ rows_of es own

rows_entries : (es : List (ℕ × Sa)) (own : List Own) → AreOwn (records_in es) own → entries_in (rows_of es own) ≡ es
unfolding rows_of
rows_entries [] own all = refl
rows_entries (e ∷ es) [] all = absurd all
rows_entries (e ∷ es) (o ∷ own) all = ap (λ (xs : List (ℕ × Sa)). e ∷ xs) (rows_entries es own all.1)

rows_own : (es : List (ℕ × Sa)) (own : List Own) → AreOwn (records_in es) own → own_parts (rows_of es own) ≡ own
unfolding rows_of
rows_own [] [] all = refl
rows_own [] (o ∷ own) all = absurd all
rows_own (e ∷ es) [] all = absurd all
rows_own (e ∷ es) (o ∷ own) all = ap (λ (xs : List Own). o ∷ xs) (rows_own es own all.1)

-- one of them
abbrev pub IsRowOf : List Row → Row → Type 0
IsRowOf [] x = ⊥
IsRowOf (r ∷ rows) x = (r ≡ x) ⊎ IsRowOf rows x

all_rows : (P : Row → Type 0) (rows : List Row) → ((x : Row) → IsRowOf rows x → P x) → All P rows
all_rows P [] each = All-nil P
all_rows P (r ∷ rows) each = All-cons P r rows (each r (inl refl)) (all_rows P rows (λ x h. each x (inr h)))

row_slot_missed : (rows : List Row) (k : ℕ) (x : Row) → Misses k (slots_in rows) → IsRowOf rows x → x.0 ≢ k
row_slot_missed [] k x miss h = absurd h
row_slot_missed (r ∷ rows) k x miss (inl h) = λ e. miss.0 (sym e ∙ ap (λ (y : Row). y.0) (sym h))
row_slot_missed (r ∷ rows) k x miss (inr h) = row_slot_missed rows k x miss.1 h

row_entry : (rows : List Row) (x : Row) → IsRowOf rows x → IsEntry (entries_in rows) x.0 x.1.0
row_entry [] x h = absurd h
row_entry (r ∷ rows) x (inl h) = inl (ap (λ (y : Row). y.0) h, ap (λ (y : Row). y.1.0) h)
row_entry (r ∷ rows) x (inr h) = inr (row_entry rows x h)

-- an entry's state is in the list of states
row_state : (P : Sa → Type 0) (rows : List Row) (x : Row) → All P (states_in rows) → IsRowOf rows x → P x.1.0
row_state P [] x all h = absurd h
row_state P (r ∷ rows) x all (inl h) = subst (λ (y : Row). P y.1.0) h (All-head P r.1.0 (states_in rows) all)
row_state P (r ∷ rows) x all (inr h) = row_state P rows x (All-tail P r.1.0 (states_in rows) all) h

abbrev pub Differ : Sa → Sa → Type 0
Differ a b = a.sid ≡ b.sid → ⊥

-- the own part of a row is found by its state's id
pub row_own : (none : Own) (rows : List Row) (x : Row) → AllPairs Differ (states_in rows) → IsRowOf rows x → own_of x.1.0.sid (states_in rows) (own_parts rows) none ≡ x.1.1
row_own none [] x apart h = absurd h
row_own none (r ∷ rows) x apart (inl h) =
    ap (λ b. cond b r.1.1 (own_of x.1.0.sid (states_in rows) (own_parts rows) none)) (eq-eqb r.1.0.sid x.1.0.sid (ap (λ (y : Row). y.1.0.sid) h)) ∙ ap (λ (y : Row). y.1.1) h
row_own none (r ∷ rows) x apart (inr h) =
    ap (λ b. cond b r.1.1 (own_of x.1.0.sid (states_in rows) (own_parts rows) none))
    (ne_eqb r.1.0.sid x.1.0.sid (λ e. row_state (Differ r.1.0) rows x (AllPairs-head Differ r.1.0 (states_in rows) apart) h e))
    ∙ row_own none rows x (AllPairs-tail Differ r.1.0 (states_in rows) apart) h

-- ---- what a value stands for

value_dead : (v : LocalView) → value_standing v ≡ Nothing → v ≡ Dead
value_dead Dead e = refl
value_dead (Live l) e = absurd cc

value_live : (v : LocalView) (x : Sa) (time : ℕ) (own : Own) → value_standing v ≡ OneState x time own → v ≡ Live (record { state = x; own = own; time = time })
value_live Dead x time own e = absurd cc
value_live (Live l) x time own e =
    let a : l.state ≡ x = cc in
    let b : l.time ≡ time = cc in
    let c : l.own ≡ own = cc in
    λ i. Live (record { state = a i; own = c i; time = b i })

-- a slot of a state that has no entry lists nothing
pub missed_none : (p s : ℕ) (image : List ℕ) (t : Told) (g : Good p s image t) (slot : ℕ) → slot < s → Misses slot (slots_in g.states) → lists p s image (p + slot) ≡ None
missed_none p s image t g slot l miss = at (is_marked p s image (p + slot)) refl
  where
    at : (b : Bool) → is_marked p s image (p + slot) ≡ b → lists p s image (p + slot) ≡ None
    at false is = told_false p s image (state_there p s image) (p + slot) is
    at true is =
        let m : Marked p s image (p + slot) = marked_says p s image (p + slot) is in
        let same : slot ≡ m.number = (let e : p + slot ≡ p + m.number = m.is in omega (arith, e)) in
        absurd (g.states_marked.others slot l miss (ap (λ (k : ℕ). slice_index image (p + k)) same ∙ m.status))

-- ---- good words stand

module _ (p s : ℕ) (image : List ℕ) (t : Told) (g : Good p s image t) (m : Machine) (is : IsMachine m) (same : t.shown ≡ m.shown) where
  rows : List Row
  rows = rows_of g.states m.own

  listed : records_in g.states ≡ m.shown.states
  listed = g.on_states.listed ∙ ap (λ (x : Shown). x.states) same

  fits : AreOwn (records_in g.states) m.own
  fits = subst (λ (xs : List Sa). AreOwn xs m.own) (sym listed) is.own

  entries : entries_in rows ≡ g.states
  unfolding rows
  entries = rows_entries g.states m.own fits

  parts : own_parts rows ≡ m.own
  unfolding rows
  parts = rows_own g.states m.own fits

  states : states_in rows ≡ m.shown.states
  states = ap (λ (es : List (ℕ × Sa)). records_in es) entries ∙ listed

  slots : slots_in rows ≡ slots_in g.states
  slots = sym (row_slots rows) ∙ ap (λ (es : List (ℕ × Sa)). slots_in es) entries

  -- what the image lists at a row's slot, with the machine's own part
  row_listed : (x : Row) → IsRowOf rows x → standing_of (listed_at (lists p s) m image (p + x.0)) ≡ OneState x.1.0 m.shown.time x.1.1
  row_listed x h =
      let entry : IsEntry g.states x.0 x.1.0 = subst (λ (es : List (ℕ × Sa)). IsEntry es x.0 x.1.0) entries (row_entry rows x h) in
      let none : Own = new_own x.1.0.spec in
      let own : own_in m x.1.0 ≡ x.1.1 =
      ap (λ (ss : List Sa). own_of x.1.0.sid ss m.own none) (sym states) ∙ ap (λ (os : List Own). own_of x.1.0.sid (states_in rows) os none) (sym parts)
      ∙ row_own none rows x (subst (λ (xs : List Sa). AllPairs Differ xs) (sym states) is.shown.states.sids) h in
      ap (λ (o : Option (Sa × ℕ)). standing_of (option_map (with_own m) o)) (lists_entry p s image t g x.0 x.1.0 entry)
      ∙ ap (λ (n : ℕ). OneState x.1.0 n (own_in m x.1.0)) (ap (λ (z : Shown). z.time) same)
      ∙ ap (λ (o : Own). OneState x.1.0 m.shown.time o) own

  pub good_stands : (b : Beside) → AreBeside p s image m b → Stands (layout_of p s) image b m
  good_stands b beside = record {
    policies = g.policies;
    rows = rows;
    on_policies = subst (λ (x : Shown). SpdStands (policies_of p s) image x g.policies) same g.on_policies;
    on_states = subst (λ (es : List (ℕ × Sa)). StatesStand (states_of p s) image m.shown es) (sym entries)
        (subst (λ (x : Shown). StatesStand (states_of p s) image x g.states) same g.on_states);
    own = parts;
    time = g.time ∙ ap (λ (x : Shown). x.time) same;
    values = record {
      live = all_rows (Keeps m.shown.time b) rows (λ x h. record {
        value = λ held.
            let entry : IsEntry g.states x.0 x.1.0 = subst (λ (es : List (ℕ × Sa)). IsEntry es x.0 x.1.0) entries (row_entry rows x h) in
            value_live (at b x.0) x.1.0 m.shown.time x.1.1
            (beside.held x.0 (entry_within s g.states x.0 x.1.0 g.on_states.chained.within entry) held ∙ row_listed x h);
      });
      dead = λ slot l held miss.
          let low : slot < s = subst (λ (n : ℕ). slot < n) beside.count l in
          value_dead (at b slot) (beside.held slot low held
          ∙ ap (λ (o : Option (Sa × ℕ)). standing_of (option_map (with_own m) o)) (missed_none p s image t g slot low (subst (λ (xs : List ℕ). Misses slot xs) slots miss)));
    };
    count = beside.count;
    machine = is;
  }

-- ---- each shown part is some machine's

first_own : List Sa → List Own
first_own [] = []
first_own (x ∷ xs) = new_own x.spec ∷ first_own xs

first_fits : (xs : List Sa) → AreOwn xs (first_own xs)
unfolding first_own
first_fits [] = tt
first_fits (x ∷ xs) = (own-new x, first_fits xs)

pub first_machine : Shown → Machine
first_machine shown = record { shown = shown; own = first_own shown.states }

pub first_is : (shown : Shown) → IsShownPart shown → IsMachine (first_machine shown)
unfolding first_machine
first_is shown is = record { shown = is; own = first_fits shown.states }

first_shown : (shown : Shown) → shown ≡ (first_machine shown).shown
unfolding first_machine
first_shown shown = refl

-- no turn is held
none_held : ℕ → Beside
none_held s = record { held = λ slot. false; values = replicate s Dead }

none_beside : (p s : ℕ) (image : List ℕ) (m : Machine) → AreBeside p s image m (none_held s)
unfolding none_held
none_beside p s image m = record { count = length-replicate s Dead; held = λ slot l h. absurd cc }

-- words tell one shown part alone
pub shown_is : (p s : ℕ) (image : List ℕ) (t : Told) → IsShownPart t.shown → Good p s image t → t.shown ≡ shown_in (layout_of p s) image
shown_is p s image t sh g =
    let m : Machine = first_machine t.shown in
    first_shown t.shown
    ∙ shown_told (layout_of p s) image (none_held s) m
    (good_stands p s image t g m (first_is t.shown sh) (first_shown t.shown) (none_held s) (none_beside p s image m))

pub certain : (p s : ℕ) (image : List ℕ) (t u : Told) → IsShownPart t.shown → IsShownPart u.shown → Good p s image t → Good p s image u → t.shown ≡ u.shown
certain p s image t u a b g h = shown_is p s image t a g ∙ sym (shown_is p s image u b h)

-- ---- words that stand are good

unfoldable pub stands_good : (p s : ℕ) (image : List ℕ) (b : Beside) (m : Machine) (ids : ChangeIds) → Stands (layout_of p s) image b m → MarksStand p s image → AreIds p s image ids
    → length image ≡ size_of p s → Good p s image (told m.shown ids)
stands_good p s image b m ids r marks are size = record {
  policies = r.policies;
  states = entries_in r.rows;
  on_policies = r.on_policies;
  on_states = r.on_states;
  time = r.time;
  policies_marked = subst (λ (xs : List ℕ). AreMarked 0 p image xs) (listed_is (policies_of p s) image m.shown r.policies r.on_policies.list) marks.policies;
  states_marked = subst (λ (xs : List ℕ). AreMarked p s image xs) (state_slots_are (states_of p s) image m.shown (entries_in r.rows) r.on_states) marks.states;
  ids = are;
  size = size;
}

-- and the statuses in good words are right
pub good_marks : (p s : ℕ) (image : List ℕ) (t : Told) → Good p s image t → MarksStand p s image
good_marks p s image t g = record {
  policies = subst (λ (xs : List ℕ). AreMarked 0 p image xs) (sym (listed_is (policies_of p s) image t.shown g.policies g.on_policies.list)) g.policies_marked;
  states = subst (λ (xs : List ℕ). AreMarked p s image xs) (sym (state_slots_are (states_of p s) image t.shown g.states g.on_states)) g.states_marked;
}
