-- A walk over the states goes on.
use Rattle.std.proofs.Common.{arith, ℕ, zero, suc, ◌≡◌, ◌+◌, ◌-◌, ◌<◌, ◌≤◌, Bool, true, false, not, cond, List, [], ◌∷◌, ◌++◌, Option, None, Some, length, refl, ap, sym, ◌∙◌, subst, append_assoc}
use Rattle.std.specs.Prelude.{All, count_by}
use Rattle.std.proofs.lemmas.List.Elements.{All-head, All-tail, All-weaker}
use Rattle.std.proofs.lemmas.List.Sums.{sum_by-cons}
use Rattle.xf_types.specs.declared.state.Sa.{Sa}
use Rattle.xf_types.specs.Machine.{Machine, Shown}
use Rattle.xf_types.specs.PolicyList.{without}
use Rattle.xf_chain.specs.Lists.{first_of}
use Rattle.xf_index.specs.Indexes.{slots_in}
use Rattle.xf_cells.specs.Backs.{TakesBack, Lasts, TakesAny}
use Rattle.xf_sadidx.specs.Layout.{record_at}
use Rattle.xf_sadimage.specs.States.{StatesStand}
use Rattle.xf_sad.specs.Slots.{PoolFits, listed_in}
use Rattle.xf_sad.proofs.Found.{listed_between}
use Rattle.xf_rows.specs.declared.layout.Layout.{Layout}
use Rattle.xf_rows.specs.Rows.{Row, entries_in, states_in, on_row}
use Rattle.xf_rows.specs.Values.{Beside}
use Rattle.xf_rows.specs.Stands.{Stands, machine_with}
use Rattle.xf_rows.proofs.Lists.{row_slots}
use Rattle.xf_statecalls.specs.Left.{RowAt, Occupied, StandsFor}
use Rattle.xf_statecalls.specs.Sweeps.{Started, HasTurns, HeldIf, passed, Sweeping, IsSwept}
use Rattle.xf_statecalls.proofs.Rows.{stands_for, rows_few}
use Rattle.xf_statecalls.proofs.Placed.{turns_rows}
use Rattle.xf_statecalls.proofs.Standing.{entry_at, row_back, row_state}

same_slot : (slot other : ℕ) → Some slot ≡ Some other → slot ≡ other
same_slot slot other e = cc

no_more : (back : List Row) (left : ℕ) → left ≡ 0 → length back ≤ left → back ≡ []
no_more [] left = λ e l. refl
no_more (x ∷ back) left = λ e l. absurd (omega (arith, e, l))

none_comes : (back : List Row) → None ≡ first_of (slots_in back) → back ≡ []
none_comes [] = λ e. refl
none_comes (x ∷ back) = λ e. absurd (cc)

-- ---- it begins

pub sweeping_begins : (layout : Layout) (i : List ℕ) (b : Beside) (leaves : Sa → Bool) (m : Machine) (at : Option ℕ) (r : Stands layout i b m)
    → HasTurns layout.states i b leaves → at ≡ first_of (slots_in (entries_in r.rows)) → Sweeping layout i b leaves m.shown r.rows at layout.states.slots 0
sweeping_begins layout i b leaves m at r turns is = record {
  front = [];
  back = r.rows;
  at_is = is ∙ ap (λ (xs : List ℕ). first_of xs) (row_slots r.rows);
  left_is = rows_few layout i b m r;
  stands = stands_for layout i b m r;
  rest = refl;
  counted = omega arith;
  turns = turns_rows layout i b m leaves r turns;
}

-- ---- one more state

-- the row that comes next, where those in front were passed
abbrev at_row : (layout : Layout) (i : List ℕ) (b : Beside) (s : Shown) (front back : List Row) (x : Row) (slot : ℕ) → Some slot ≡ Some x.0
    → StandsFor layout i b s (front ++ (x ∷ back)) → RowAt layout i b (machine_with s (front ++ (x ∷ back))) slot
at_row layout i b s front back x slot e k =
    record { stands = k.stands; row = x; place = record { front = front; back = back; whole = k.rows_are }; slot_is = sym (same_slot slot x.0 e) }

one_left_ : (leaves : Sa → Bool) (x : Row) (back : List Row) (t : Bool) → leaves x.1.0 ≡ t → without (on_row leaves) (x ∷ back) ≡ cond (not t) (x ∷ without (on_row leaves) back) (without (on_row leaves) back)
one_left_ leaves x back t e = ap (λ (u : Bool). cond (not u) (x ∷ without (on_row leaves) back) (without (on_row leaves) back)) e

one_counted : (leaves : Sa → Bool) (x : Row) (back : List Row) (t : Bool) → leaves x.1.0 ≡ t
    → count_by leaves (states_in (x ∷ back)) ≡ cond {A = ℕ} t 1 0 + count_by leaves (states_in back)
one_counted leaves x back t e =
    sum_by-cons (λ s. cond (leaves s) 1 0) x.1.0 (states_in back) ∙ ap (λ (u : Bool). cond {A = ℕ} u 1 0 + count_by leaves (states_in back)) e

going : (layout : Layout) (k : List ℕ) (c : Beside) (leaves : Sa → Bool) (s : Shown) (rows front back : List Row) (x : Row) (next : Option ℕ) (left count n : ℕ) (t : Bool)
    → leaves x.1.0 ≡ t → next ≡ first_of (slots_in back) → length back + 1 ≤ left → StandsFor layout k c s (passed t front x back)
    → front ++ without (on_row leaves) (x ∷ back) ≡ without (on_row leaves) rows
    → count + count_by leaves (states_in (x ∷ back)) ≡ count_by leaves (states_in rows) → All (HeldIf c leaves) back → n ≡ cond {A = ℕ} t 1 0
    → Sweeping layout k c leaves s rows next (left - 1) (count + n)
going layout k c leaves s rows front back x next left count n true = λ is at len st rest counts turns one.
    let more : count_by leaves (states_in (x ∷ back)) ≡ 1 + count_by leaves (states_in back) = one_counted leaves x back true is in
    record {
      front = front;
      back = back;
      at_is = at;
      left_is = omega (arith, len);
      stands = st;
      rest = ap (λ (xs : List Row). front ++ xs) (sym (one_left_ leaves x back true is)) ∙ rest;
      counted = omega (arith, counts, more, one);
      turns = turns;
    }
going layout k c leaves s rows front back x next left count n false = λ is at len st rest counts turns one.
    let more : count_by leaves (states_in (x ∷ back)) ≡ 0 + count_by leaves (states_in back) = one_counted leaves x back false is in
    record {
      front = front ++ (x ∷ []);
      back = back;
      at_is = at;
      left_is = omega (arith, len);
      stands = subst (λ (xs : List Row). StandsFor layout k c s xs) (sym (append_assoc front (x ∷ []) back)) st;
      rest = append_assoc front (x ∷ []) (without (on_row leaves) back) ∙ ap (λ (xs : List Row). front ++ xs) (sym (one_left_ leaves x back false is)) ∙ rest;
      counted = omega (arith, counts, more, one);
      turns = turns;
    }

-- the same turns are held
turned : (b c : Beside) (leaves : Sa → Bool) (xs : List Row) → c.held ≡ b.held → All (HeldIf b leaves) xs → All (HeldIf c leaves) xs
turned b c leaves xs e turns = All-weaker (HeldIf b leaves) (HeldIf c leaves) (λ x h yes. ap (λ (f : ℕ → Bool). f x.0) e ∙ h yes) xs turns

goes_by : (layout : Layout) (i k : List ℕ) (b c : Beside) (leaves : Sa → Bool) (s : Shown) (rows front back : List Row) (slot : ℕ) (next : Option ℕ) (left count n : ℕ)
    → Some slot ≡ first_of (slots_in back) → length back ≤ left → StandsFor layout i b s (front ++ back)
    → front ++ without (on_row leaves) back ≡ without (on_row leaves) rows → count + count_by leaves (states_in back) ≡ count_by leaves (states_in rows)
    → All (HeldIf b leaves) back → c.held ≡ b.held
    → ((t : Shown) (fs es : List (ℕ × Sa)) (r : Sa) → StatesStand layout.states i t (fs ++ ((slot, r) ∷ es)) → next ≡ first_of (slots_in es))
    → ((m : Machine) (t : RowAt layout i b m slot) → StandsFor layout k c m.shown (passed (leaves t.row.1.0) t.place.front t.row t.place.back))
    → ((m : Machine) (t : RowAt layout i b m slot) → n ≡ cond {A = ℕ} (leaves t.row.1.0) 1 0)
    → Sweeping layout k c leaves s rows next (left - 1) (count + n)
goes_by layout i k b c leaves s rows front [] slot next left count n = λ e len st rest counts turns same at pass counted. absurd (cc)
goes_by layout i k b c leaves s rows front (x ∷ back) slot next left count n = λ e len st rest counts turns same at pass counted.
    let m : Machine = machine_with s (front ++ (x ∷ back)) in
    let t : RowAt layout i b m slot = at_row layout i b s front back x slot e st in
    let come : next ≡ first_of (slots_in back) =
    at m.shown (entries_in front) (entries_in back) x.1.0 (entry_at layout i b m slot t) ∙ ap (λ (xs : List ℕ). first_of xs) (row_slots back) in
    let now : StandsFor layout k c m.shown (passed (leaves x.1.0) front x back) = pass m t in
    going layout k c leaves s rows front back x next left count n (leaves x.1.0) refl come (omega (arith, len)) (record { stands = now.stands; rows_are = now.rows_are }) rest counts
    (turned b c leaves back same (All-tail (HeldIf b leaves) x back turns)) (counted m t)

pub sweeping_goes : (layout : Layout) (i k : List ℕ) (b c : Beside) (leaves : Sa → Bool) (s : Shown) (rows : List Row) (slot : ℕ) (next : Option ℕ) (left count n : ℕ)
    → Sweeping layout i b leaves s rows (Some slot) left count → c.held ≡ b.held
    → ((t : Shown) (fs es : List (ℕ × Sa)) (r : Sa) → StatesStand layout.states i t (fs ++ ((slot, r) ∷ es)) → next ≡ first_of (slots_in es))
    → ((m : Machine) (t : RowAt layout i b m slot) → StandsFor layout k c m.shown (passed (leaves t.row.1.0) t.place.front t.row t.place.back))
    → ((m : Machine) (t : RowAt layout i b m slot) → n ≡ cond {A = ℕ} (leaves t.row.1.0) 1 0)
    → Sweeping layout k c leaves s rows next (left - 1) (count + n)
sweeping_goes layout i k b c leaves s rows slot next left count n w same at pass counted =
    goes_by layout i k b c leaves s rows w.front w.back slot next left count n w.at_is w.left_is w.stands w.rest w.counted w.turns same at pass counted

-- a state stands in the slot that comes next
comes_by : (layout : Layout) (i : List ℕ) (b : Beside) (s : Shown) (front back : List Row) (slot : ℕ) → Some slot ≡ first_of (slots_in back) → StandsFor layout i b s (front ++ back)
    → Occupied layout i b slot
comes_by layout i b s front [] slot = λ e st. absurd (cc)
comes_by layout i b s front (x ∷ back) slot = λ e st. record { machine = machine_with s (front ++ (x ∷ back)); at = at_row layout i b s front back x slot e st }

pub comes : (layout : Layout) (i : List ℕ) (b : Beside) (leaves : Sa → Bool) (s : Shown) (rows : List Row) (slot left count : ℕ) → Sweeping layout i b leaves s rows (Some slot) left count
    → Occupied layout i b slot
comes layout i b leaves s rows slot left count w = comes_by layout i b s w.front w.back slot w.at_is w.stands

-- its turn is held where it leaves
held_by : (layout : Layout) (i : List ℕ) (b : Beside) (leaves : Sa → Bool) (s : Shown) (front back : List Row) (slot : ℕ) → Some slot ≡ first_of (slots_in back) → StandsFor layout i b s (front ++ back)
    → All (HeldIf b leaves) back → (r : Sa) → record_at layout.states i slot ≡ Some r → leaves r ≡ true → b.held slot ≡ true
held_by layout i b leaves s front [] slot = λ e st turns r is yes. absurd (cc)
held_by layout i b leaves s front (x ∷ back) slot = λ e st turns r is yes.
    let m : Machine = machine_with s (front ++ (x ∷ back)) in
    let same : r ≡ x.1.0 = row_state layout i b m slot r (at_row layout i b s front back x slot e st) (sym is) in
    let held : b.held x.0 ≡ true = All-head (HeldIf b leaves) x back turns (ap (λ (y : Sa). leaves y) (sym same) ∙ yes) in
    subst (λ (n : ℕ). b.held n ≡ true) (sym (same_slot slot x.0 e)) held

pub held_next : (layout : Layout) (i : List ℕ) (b : Beside) (leaves : Sa → Bool) (s : Shown) (rows : List Row) (slot left count : ℕ) → Sweeping layout i b leaves s rows (Some slot) left count
    → (r : Sa) → record_at layout.states i slot ≡ Some r → leaves r ≡ true → b.held slot ≡ true
held_next layout i b leaves s rows slot left count w = held_by layout i b leaves s w.front w.back slot w.at_is w.stands w.turns

-- a pool takes back its slot
some_out : (front back : List ℕ) (slot : ℕ) → 0 < length (front ++ (slot ∷ back))
some_out [] back slot = omega arith
some_out (x ∷ front) back slot = omega arith

pub takes_back : {P : Type 0} (lasts : Bool) (taken : P → ℕ) (takes : P → ℕ → Type 0) (pool : P) (layout : Layout) (i : List ℕ) (b : Beside) (m : Machine) (slot all : ℕ) (gives : ℕ → Type 0)
    → RowAt layout i b m slot → TakesBack lasts taken takes
    → (lasts ≡ true → PoolFits all (taken pool) gives (takes pool) layout.states.slots (listed_in layout.states i)) → taken pool ≡ length (listed_in layout.states i) → takes pool slot
takes_back lasts taken takes pool layout i b m slot all gives t (Lasts is) fits out = row_back layout i b m slot all (taken pool) gives (takes pool) t (fits is)
takes_back lasts taken takes pool layout i b m slot all gives t (TakesAny any) fits out =
    let front : List (ℕ × Sa) = entries_in t.place.front in
    let back : List (ℕ × Sa) = entries_in t.place.back in
    let list : listed_in layout.states i ≡ slots_in front ++ (slot ∷ slots_in back) = listed_between layout.states i m.shown front back slot t.row.1.0 (entry_at layout i b m slot t) in
    let some : 0 < length (slots_in front ++ (slot ∷ slots_in back)) = some_out (slots_in front) (slots_in back) slot in
    let count : taken pool ≡ length (slots_in front ++ (slot ∷ slots_in back)) = out ∙ ap (λ (xs : List ℕ). length xs) list in
    any pool slot (omega (arith, some, count))

-- words and values that are equal to others
pub sweeping_same : (layout : Layout) (i j : List ℕ) (b c : Beside) (leaves : Sa → Bool) (s : Shown) (rows : List Row) (at : Option ℕ) (left count : ℕ) → j ≡ i → c ≡ b
    → Sweeping layout i b leaves s rows at left count → Sweeping layout j c leaves s rows at left count
sweeping_same layout i j b c leaves s rows at left count e f w =
    subst (λ (k : List ℕ). Sweeping layout k c leaves s rows at left count) (sym e) (subst (λ (d : Beside). Sweeping layout i d leaves s rows at left count) (sym f) w)

-- ---- it ends

ends_at : (layout : Layout) (i : List ℕ) (b : Beside) (leaves : Sa → Bool) (s : Shown) (rows front back : List Row) (count : ℕ) → back ≡ [] → StandsFor layout i b s (front ++ back)
    → front ++ without (on_row leaves) back ≡ without (on_row leaves) rows → count + count_by leaves (states_in back) ≡ count_by leaves (states_in rows)
    → IsSwept layout i b leaves s rows count
ends_at layout i b leaves s rows front [] count = λ e st rest counts. record {
  stands = subst (λ (xs : List Row). StandsFor layout i b s xs) rest st;
  counted = omega (arith, counts);
}
ends_at layout i b leaves s rows front (x ∷ back) count = λ e st rest counts. absurd (cc)

pub sweeping_ends : (layout : Layout) (i : List ℕ) (b : Beside) (leaves : Sa → Bool) (s : Shown) (rows : List Row) (at : Option ℕ) (left count : ℕ) → left ≡ 0
    → Sweeping layout i b leaves s rows at left count → IsSwept layout i b leaves s rows count
sweeping_ends layout i b leaves s rows at left count e w =
    ends_at layout i b leaves s rows w.front w.back count (no_more w.back left e w.left_is) w.stands w.rest w.counted

pub sweeping_stops : (layout : Layout) (i : List ℕ) (b : Beside) (leaves : Sa → Bool) (s : Shown) (rows : List Row) (at : Option ℕ) (left count : ℕ) → at ≡ None
    → Sweeping layout i b leaves s rows at left count → IsSwept layout i b leaves s rows count
sweeping_stops layout i b leaves s rows at left count e w =
    ends_at layout i b leaves s rows w.front w.back count (none_comes w.back (sym e ∙ w.at_is)) w.stands w.rest w.counted

-- how many left of one
pub few_of : (b : Bool) (n : ℕ) → n ≡ cond {A = ℕ} b 1 0 → n ≤ 1
few_of true n e = omega (arith, e)
few_of false n e = omega (arith, e)

-- ---- whether anything began

pub started_not : (i j : List ℕ) (b c : Beside) (before after : Bool) → j ≡ i → c ≡ b → after ≡ before → Started 0 i j b c before after
started_not i j b c before after e f g = record { idle = λ none. (e, f, g); begun = λ less. absurd (omega (arith, less)) }

pub started_now : (i j : List ℕ) (b c : Beside) (before after : Bool) → after ≡ true → Started 1 i j b c before after
started_now i j b c before after g = record { idle = λ none. absurd (omega (arith, none)); begun = λ less. g }

-- one after the other
pub started_more : (count more : ℕ) (i j k : List ℕ) (b c d : Beside) (before between after : Bool) → Started count i j b c before between → Started more j k c d between after
    → Started (count + more) i k b d before after
started_more count more i j k b c d before between after one two = record {
  idle = λ none.
      let first : count ≡ 0 = omega (arith, none) in
      let last : more ≡ 0 = omega (arith, none) in
      ((two.idle last).0 ∙ (one.idle first).0, (two.idle last).1 ∙ (one.idle first).1, (two.idle last).2 ∙ (one.idle first).2);
  begun = λ less. by more refl less;
}
  where
    by : (n : ℕ) → more ≡ n → 0 < count + more → after ≡ true
    by zero e = λ less. (two.idle e).2 ∙ one.begun (omega (arith, less, e))
    by (suc n) e = λ less. two.begun (omega (arith, e))

-- after loads that left words and values
pub started_as : (count : ℕ) (i j k : List ℕ) (b c d : Beside) (before between after : Bool) → j ≡ i → c ≡ b → between ≡ before → Started count j k c d between after
    → Started count i k b d before after
started_as count i j k b c d before between after e f g s =
    subst (λ (x : List ℕ). Started count x k b d before after) e
    (subst (λ (x : Beside). Started count j k x d before after) f (subst (λ (x : Bool). Started count j k c d x after) g s))
