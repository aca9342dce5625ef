-- Lists of rows, in parts and by tests.
use Rattle.std.proofs.Common.{ℕ, ◌≡◌, Bool, true, false, not, List, [], ◌∷◌, ◌++◌, cond, refl, ap, sym, ◌∙◌, subst, All, AllPairs, eq-eqb, Some}
use Rattle.std.specs.Prelude.{zip}
use Rattle.std.proofs.lemmas.Bool.{ne_eqb}
use Rattle.std.proofs.lemmas.List.Elements.{All-nil, All-cons, All-head, All-tail, All-append}
use Rattle.xf_types.specs.declared.state.Sa.{Sa}
use Rattle.xf_types.specs.Machine.{Own}
use Rattle.xf_types.specs.PolicyList.{without}
use Rattle.xf_types.specs.OwnParts.{own_without, own_put, own_of}
use Rattle.xf_types.specs.StateList.{has_sid, changed}
use Rattle.xf_laws.proofs.ListLemmas.{AllPairs-head, AllPairs-tail}
use Rattle.xf_chain.specs.Lists.{Misses}
use Rattle.xf_index.specs.Indexes.{slots_in, records_in}
use Rattle.xf_index.proofs.Entries.{records_append}
use Rattle.xf_rows.specs.Rows.{Row, entries_in, states_in, own_parts, on_row}
use Rattle.xf_rows.specs.Changes.{is_slot, TellAlike}

-- ---- in two parts

pub entries_append : (front back : List Row) → entries_in (front ++ back) ≡ entries_in front ++ entries_in back
entries_append [] back = refl
entries_append (r ∷ rows) back = ap (λ (es : List (ℕ × Sa)). (r.0, r.1.0) ∷ es) (entries_append rows back)

pub states_append : (front back : List Row) → states_in (front ++ back) ≡ states_in front ++ states_in back
states_append front back = ap (λ (es : List (ℕ × Sa)). records_in es) (entries_append front back) ∙ records_append (entries_in front) (entries_in back)

pub own_append : (front back : List Row) → own_parts (front ++ back) ≡ own_parts front ++ own_parts back
own_append [] back = refl
own_append (r ∷ rows) back = ap (λ (os : List Own). r.1.1 ∷ os) (own_append rows back)

pub all_front : {X : Type 0} (P : X → Type 0) (front back : List X) → All P (front ++ back) → All P front
all_front P [] back = λ all. All-nil P
all_front P (x ∷ front) back = λ all. All-cons P x front (All-head P x (front ++ back) all) (all_front P front back (All-tail P x (front ++ back) all))

pub all_back : {X : Type 0} (P : X → Type 0) (front back : List X) → All P (front ++ back) → All P back
all_back P [] back = λ all. all
all_back P (x ∷ front) back = λ all. all_back P front back (All-tail P x (front ++ back) all)

-- the rows and their entries have the same slots
pub row_slots : (rows : List Row) → slots_in (entries_in rows) ≡ slots_in rows
row_slots [] = refl
row_slots (r ∷ rows) = ap (λ (xs : List ℕ). r.0 ∷ xs) (row_slots rows)

-- records beside own parts are what the rows have
pub row_pairs : (rows : List Row) → zip (states_in rows) (own_parts rows) ≡ records_in rows
row_pairs [] = refl
row_pairs (r ∷ rows) = ap (λ (xs : List (Sa × Own)). r.1 ∷ xs) (row_pairs rows)

-- ---- those that a test leaves

pub left_states : (leaves : Sa → Bool) (rows : List Row) → states_in (without (on_row leaves) rows) ≡ without leaves (states_in rows)
left_states leaves [] = refl
left_states leaves (r ∷ rows) =
    elim (leaves r.1.0) as (λ b. states_in (cond (not b) (r ∷ without (on_row leaves) rows) (without (on_row leaves) rows))
    ≡ cond (not b) (r.1.0 ∷ without leaves (states_in rows)) (without leaves (states_in rows))) [
      | true ↦ left_states leaves rows
      | false ↦ ap (λ (ss : List Sa). r.1.0 ∷ ss) (left_states leaves rows)
    ]

pub left_own : (leaves : Sa → Bool) (rows : List Row)
    → own_parts (without (on_row leaves) rows) ≡ own_without leaves (states_in rows) (own_parts rows)
left_own leaves [] = refl
left_own leaves (r ∷ rows) =
    elim (leaves r.1.0) as (λ b. own_parts (cond (not b) (r ∷ without (on_row leaves) rows) (without (on_row leaves) rows))
    ≡ cond b (own_without leaves (states_in rows) (own_parts rows)) (r.1.1 ∷ own_without leaves (states_in rows) (own_parts rows))) [
      | true ↦ left_own leaves rows
      | false ↦ ap (λ (os : List Own). r.1.1 ∷ os) (left_own leaves rows)
    ]

-- where a test of slots tells the same, the entries are those that it leaves
pub left_entries : (leaves : Sa → Bool) (gone : ℕ → Bool) (rows : List Row) → TellAlike leaves gone (entries_in rows)
    → entries_in (without (on_row leaves) rows) ≡ without (λ (e : ℕ × Sa). gone e.0) (entries_in rows)
left_entries leaves gone [] = λ alike. refl
left_entries leaves gone (r ∷ rows) = λ alike.
    let this : leaves r.1.0 ≡ gone r.0 = All-head (λ (e : ℕ × Sa). leaves e.1 ≡ gone e.0) (r.0, r.1.0) (entries_in rows) alike in
    let rest : entries_in (without (on_row leaves) rows) ≡ without (λ (e : ℕ × Sa). gone e.0) (entries_in rows) =
    left_entries leaves gone rows (All-tail (λ (e : ℕ × Sa). leaves e.1 ≡ gone e.0) (r.0, r.1.0) (entries_in rows) alike) in
    by (leaves r.1.0) (gone r.0) this rest
  where
    by : (b c : Bool) → b ≡ c → entries_in (without (on_row leaves) rows) ≡ without (λ (e : ℕ × Sa). gone e.0) (entries_in rows)
        → entries_in (cond (not b) (r ∷ without (on_row leaves) rows) (without (on_row leaves) rows))
        ≡ cond (not c) ((r.0, r.1.0) ∷ without (λ (e : ℕ × Sa). gone e.0) (entries_in rows)) (without (λ (e : ℕ × Sa). gone e.0) (entries_in rows))
    by true true e rest = rest
    by true false e rest = absurd (cc)
    by false true e rest = absurd (cc)
    by false false e rest = ap (λ (es : List (ℕ × Sa)). (r.0, r.1.0) ∷ es) rest

-- ---- one row among others

-- no row's state has this state id
abbrev pub NoneHas : ℕ → List Row → Type 0
NoneHas sid [] = Unit {0}
NoneHas sid (r ∷ rows) = (has_sid sid r.1.0 ≡ false) × NoneHas sid rows

-- the ids of two states differ
abbrev pub Differ : Sa → Sa → Type 0
Differ x y = x.sid ≡ y.sid → ⊥

own_id : (s : Sa) → has_sid s.sid s ≡ true
own_id s = eq-eqb s.sid s.sid refl

none_differs : (x : Sa) (rows : List Row) → All (Differ x) (states_in rows) → NoneHas x.sid rows
none_differs x [] = λ all. tt
none_differs x (r ∷ rows) = λ all. (
  ne_eqb r.1.0.sid x.sid (λ e. All-head (Differ x) r.1.0 (states_in rows) all (sym e)),
  none_differs x rows (All-tail (Differ x) r.1.0 (states_in rows) all),
)

all_at : (P : Sa → Type 0) (front back : List Row) (x : Row) → All P (states_in (front ++ (x ∷ back))) → P x.1.0
all_at P [] back x = λ all. All-head P x.1.0 (states_in back) all
all_at P (r ∷ front) back x = λ all. all_at P front back x (All-tail P r.1.0 (states_in (front ++ (x ∷ back))) all)

pub none_before : (front back : List Row) (x : Row) → AllPairs Differ (states_in (front ++ (x ∷ back))) → NoneHas x.1.0.sid front
none_before [] back x = λ pairs. tt
none_before (r ∷ front) back x = λ pairs. (
  ne_eqb r.1.0.sid x.1.0.sid (all_at (Differ r.1.0) front back x (AllPairs-head Differ r.1.0 (states_in (front ++ (x ∷ back))) pairs)),
  none_before front back x (AllPairs-tail Differ r.1.0 (states_in (front ++ (x ∷ back))) pairs),
)

pub none_behind : (front back : List Row) (x : Row) → AllPairs Differ (states_in (front ++ (x ∷ back))) → NoneHas x.1.0.sid back
none_behind [] back x = λ pairs. none_differs x.1.0 back (AllPairs-head Differ x.1.0 (states_in back) pairs)
none_behind (r ∷ front) back x = λ pairs. none_behind front back x (AllPairs-tail Differ r.1.0 (states_in (front ++ (x ∷ back))) pairs)

-- the row of a state id leaves
without_none : (sid : ℕ) (rows : List Row) → NoneHas sid rows → without (on_row (has_sid sid)) rows ≡ rows
without_none sid [] = λ none. refl
without_none sid (r ∷ rows) = λ none.
    ap (λ b. cond (not b) (r ∷ without (on_row (has_sid sid)) rows) (without (on_row (has_sid sid)) rows)) none.0
    ∙ ap (λ (xs : List Row). r ∷ xs) (without_none sid rows none.1)

pub one_left : (x : Row) (front back : List Row) → NoneHas x.1.0.sid front → NoneHas x.1.0.sid back
    → without (on_row (has_sid x.1.0.sid)) (front ++ (x ∷ back)) ≡ front ++ back
one_left x [] back = λ before behind.
    ap (λ b. cond (not b) (x ∷ without (on_row (has_sid x.1.0.sid)) back) (without (on_row (has_sid x.1.0.sid)) back)) (own_id x.1.0)
    ∙ without_none x.1.0.sid back behind
one_left x (r ∷ front) back = λ before behind.
    ap (λ b. cond (not b) (r ∷ without (on_row (has_sid x.1.0.sid)) (front ++ (x ∷ back))) (without (on_row (has_sid x.1.0.sid)) (front ++ (x ∷ back)))) before.0
    ∙ ap (λ (xs : List Row). r ∷ xs) (one_left x front back before.1 behind)

-- the test of its state id tells the same as that of its slot
alike_none : (sid slot : ℕ) (rows : List Row) → NoneHas sid rows → Misses slot (slots_in rows) → TellAlike (has_sid sid) (is_slot (Some slot)) (entries_in rows)
alike_none sid slot [] = λ none miss. All-nil (λ (e : ℕ × Sa). has_sid sid e.1 ≡ is_slot (Some slot) e.0)
alike_none sid slot (r ∷ rows) = λ none miss.
    All-cons (λ (e : ℕ × Sa). has_sid sid e.1 ≡ is_slot (Some slot) e.0) (r.0, r.1.0) (entries_in rows)
    (none.0 ∙ sym (ne_eqb r.0 slot (λ e. miss.0 (sym e)))) (alike_none sid slot rows none.1 miss.1)

pub alike_one : (x : Row) (front back : List Row) → NoneHas x.1.0.sid front → NoneHas x.1.0.sid back
    → Misses x.0 (slots_in front) → Misses x.0 (slots_in back)
    → TellAlike (has_sid x.1.0.sid) (is_slot (Some x.0)) (entries_in (front ++ (x ∷ back)))
alike_one x front back before behind miss more =
    let P : ℕ × Sa → Type 0 = λ e. has_sid x.1.0.sid e.1 ≡ is_slot (Some x.0) e.0 in
    subst (λ (es : List (ℕ × Sa)). All P es) (sym (entries_append front (x ∷ back)))
    (All-append P (entries_in front) ((x.0, x.1.0) ∷ entries_in back) (alike_none x.1.0.sid x.0 front before miss)
    (All-cons P (x.0, x.1.0) (entries_in back) (own_id x.1.0 ∙ sym (eq-eqb x.0 x.0 refl)) (alike_none x.1.0.sid x.0 back behind more)))

-- the record of a state id changes
changed_none : (f : Sa → Sa) (sid : ℕ) (rows : List Row) → NoneHas sid rows → changed sid f (states_in rows) ≡ states_in rows
changed_none f sid [] = λ none. refl
changed_none f sid (r ∷ rows) = λ none.
    ap (λ b. cond b (f r.1.0) r.1.0 ∷ changed sid f (states_in rows)) none.0 ∙ ap (λ (ss : List Sa). r.1.0 ∷ ss) (changed_none f sid rows none.1)

pub changed_one : (f : Sa → Sa) (own : Own) (x : Row) (front back : List Row) → NoneHas x.1.0.sid front → NoneHas x.1.0.sid back
    → changed x.1.0.sid f (states_in (front ++ (x ∷ back))) ≡ states_in (front ++ ((x.0, (f x.1.0, own)) ∷ back))
changed_one f own x [] back = λ before behind.
    ap (λ b. cond b (f x.1.0) x.1.0 ∷ changed x.1.0.sid f (states_in back)) (own_id x.1.0)
    ∙ ap (λ (ss : List Sa). f x.1.0 ∷ ss) (changed_none f x.1.0.sid back behind)
changed_one f own x (r ∷ front) back = λ before behind.
    ap (λ b. cond b (f r.1.0) r.1.0 ∷ changed x.1.0.sid f (states_in (front ++ (x ∷ back)))) before.0
    ∙ ap (λ (ss : List Sa). r.1.0 ∷ ss) (changed_one f own x front back before.1 behind)

-- its own part is another one
put_none : (new : Own) (sid : ℕ) (rows : List Row) → NoneHas sid rows → own_put sid new (states_in rows) (own_parts rows) ≡ own_parts rows
put_none new sid [] = λ none. refl
put_none new sid (r ∷ rows) = λ none.
    ap (λ b. cond b new r.1.1 ∷ own_put sid new (states_in rows) (own_parts rows)) none.0 ∙ ap (λ (os : List Own). r.1.1 ∷ os) (put_none new sid rows none.1)

pub put_one : (new : Own) (s : Sa) (x : Row) (front back : List Row) → NoneHas x.1.0.sid front → NoneHas x.1.0.sid back
    → own_put x.1.0.sid new (states_in (front ++ (x ∷ back))) (own_parts (front ++ (x ∷ back))) ≡ own_parts (front ++ ((x.0, (s, new)) ∷ back))
put_one new s x [] back = λ before behind.
    ap (λ b. cond b new x.1.1 ∷ own_put x.1.0.sid new (states_in back) (own_parts back)) (own_id x.1.0)
    ∙ ap (λ (os : List Own). new ∷ os) (put_none new x.1.0.sid back behind)
put_one new s x (r ∷ front) back = λ before behind.
    ap (λ b. cond b new r.1.1 ∷ own_put x.1.0.sid new (states_in (front ++ (x ∷ back))) (own_parts (front ++ (x ∷ back)))) before.0
    ∙ ap (λ (os : List Own). r.1.1 ∷ os) (put_one new s x front back before.1 behind)

-- its own part is found by its state id
pub own_one : (none : Own) (x : Row) (front back : List Row) → NoneHas x.1.0.sid front
    → own_of x.1.0.sid (states_in (front ++ (x ∷ back))) (own_parts (front ++ (x ∷ back))) none ≡ x.1.1
own_one none x [] back = λ before.
    ap (λ b. cond b x.1.1 (own_of x.1.0.sid (states_in back) (own_parts back) none)) (own_id x.1.0)
own_one none x (r ∷ front) back = λ before.
    ap (λ b. cond b r.1.1 (own_of x.1.0.sid (states_in (front ++ (x ∷ back))) (own_parts (front ++ (x ∷ back))) none)) before.0
    ∙ own_one none x front back before.1
