-- The rows that words and values stand for.
use Rattle.std.proofs.Common.{ℕ, ◌≡◌, ◌≤◌, List, [], ◌∷◌, length, refl, ap, sym, ◌∙◌, subst}
use Rattle.xf_types.specs.declared.state.Sa.{Sa}
use Rattle.xf_types.specs.Machine.{Machine, Shown, Own}
use Rattle.xf_types.specs.PolicyList.{without}
use Rattle.xf_types.specs.OwnParts.{own_without}
use Rattle.xf_types.specs.Changes.{LeaveThen, machine_after}
use Rattle.std.proofs.Common.{Bool, None}
use Rattle.xf_chain.proofs.Slots.{slots_fit}
use Rattle.xf_index.specs.Indexes.{slots_in}
use Rattle.xf_index.proofs.Entries.{slots_length}
use Rattle.xf_sadimage.specs.States.{StatesStand}
use Rattle.xf_sad.proofs.Found.{listed_is}
use Rattle.xf_rows.specs.declared.layout.Layout.{Layout}
use Rattle.xf_rows.specs.Rows.{Row, entries_in, states_in, own_parts, on_row}
use Rattle.xf_rows.specs.Values.{Beside}
use Rattle.xf_rows.specs.Stands.{Stands, machine_with}
use Rattle.xf_rows.proofs.Lists.{row_slots, left_states, left_own}
use Rattle.xf_statecalls.specs.Left.{StandsFor}

-- ---- rows with the same slots, records and own parts are the same

first_same : {A : Type 0} (x y : A) (xs ys : List A) → x ∷ xs ≡ y ∷ ys → x ≡ y
first_same x y xs ys e = cc

rest_same : {A : Type 0} (x y : A) (xs ys : List A) → x ∷ xs ≡ y ∷ ys → xs ≡ ys
rest_same x y xs ys e = cc

row_same : (x y : Row) → x.0 ≡ y.0 → x.1.0 ≡ y.1.0 → x.1.1 ≡ y.1.1 → x ≡ y
row_same x y e f g =
    let same : x ≡ y = λ k. (e k, (f k, g k)) in
    same

pub rows_same : (xs ys : List Row) → slots_in xs ≡ slots_in ys → states_in xs ≡ states_in ys → own_parts xs ≡ own_parts ys → xs ≡ ys
rows_same [] [] = λ e f g. refl
rows_same [] (y ∷ ys) = λ e f g. absurd (cc)
rows_same (x ∷ xs) [] = λ e f g. absurd (cc)
rows_same (x ∷ xs) (y ∷ ys) = λ e f g.
    let one : x ≡ y = row_same x y (first_same x.0 y.0 (slots_in xs) (slots_in ys) e) (first_same x.1.0 y.1.0 (states_in xs) (states_in ys) f)
    (first_same x.1.1 y.1.1 (own_parts xs) (own_parts ys) g) in
    let more : xs ≡ ys = rows_same xs ys (rest_same x.0 y.0 (slots_in xs) (slots_in ys) e) (rest_same x.1.0 y.1.0 (states_in xs) (states_in ys) f)
    (rest_same x.1.1 y.1.1 (own_parts xs) (own_parts ys) g) in
    ap (λ (z : Row). z ∷ xs) one ∙ ap (λ (zs : List Row). y ∷ zs) more

-- what stands for these rows has them
pub rows_are : (layout : Layout) (i : List ℕ) (b : Beside) (s t : Shown) (rows : List Row) (r : Stands layout i b (machine_with s rows))
    → StatesStand layout.states i t (entries_in rows) → r.rows ≡ rows
rows_are layout i b s t rows r st =
    let slots : slots_in r.rows ≡ slots_in rows =
    sym (row_slots r.rows) ∙ sym (listed_is layout.states i (machine_with s rows).shown (entries_in r.rows) r.on_states) ∙ listed_is layout.states i t (entries_in rows) st ∙ row_slots rows in
    rows_same r.rows rows slots r.on_states.listed r.own

-- ---- machines by their rows

same_machine : (s : Shown) (xs ys : List Sa) (os ps : List Own) → xs ≡ ys → os ≡ ps
    → ◌≡◌ {A = Machine} (record { shown = record s { states = xs }; own = os }) (record { shown = record s { states = ys }; own = ps })
same_machine s xs ys os ps e f =
    let first : Machine = record { shown = record s { states = xs }; own = os } in
    let last : Machine = record { shown = record s { states = ys }; own = ps } in
    let whole : first ≡ last = λ k. record { shown = record s { states = e k }; own = f k } in
    whole

pub machine_of_rows : (layout : Layout) (i : List ℕ) (b : Beside) (m : Machine) (r : Stands layout i b m) → machine_with m.shown r.rows ≡ m
machine_of_rows layout i b m r = same_machine m.shown (states_in r.rows) m.shown.states (own_parts r.rows) m.own r.on_states.listed r.own

pub stands_for : (layout : Layout) (i : List ℕ) (b : Beside) (m : Machine) (r : Stands layout i b m) → StandsFor layout i b m.shown r.rows
stands_for layout i b m r =
    let same : Stands layout i b (machine_with m.shown r.rows) = subst (λ (n : Machine). Stands layout i b n) (sym (machine_of_rows layout i b m r)) r in
    record { stands = same; rows_are = rows_are layout i b m.shown m.shown r.rows same r.on_states }

-- the rows that a test leaves are those of the machine that its states left
pub machine_left : (layout : Layout) (i : List ℕ) (b : Beside) (m : Machine) (leaves : Sa → Bool) (r : Stands layout i b m)
    → machine_with m.shown (without (on_row leaves) r.rows) ≡ machine_after m (LeaveThen m.shown leaves None)
machine_left layout i b m leaves r =
    same_machine m.shown (states_in (without (on_row leaves) r.rows)) (without leaves m.shown.states) (own_parts (without (on_row leaves) r.rows)) (own_without leaves m.shown.states m.own)
    (left_states leaves r.rows ∙ ap (λ (ss : List Sa). without leaves ss) r.on_states.listed)
    (left_own leaves r.rows ∙ ap (λ (ss : List Sa). own_without leaves ss (own_parts r.rows)) r.on_states.listed ∙ ap (λ (os : List Own). own_without leaves m.shown.states os) r.own)

-- there are no more rows than slots
pub rows_few : (layout : Layout) (i : List ℕ) (b : Beside) (m : Machine) (r : Stands layout i b m) → length r.rows ≤ layout.states.slots
rows_few layout i b m r =
    let chained = r.on_states.chained in
    subst (λ (n : ℕ). n ≤ layout.states.slots) (ap (λ (xs : List ℕ). length xs) (row_slots r.rows) ∙ slots_length r.rows)
    (slots_fit layout.states.slots (slots_in (entries_in r.rows)) chained.apart chained.within)
