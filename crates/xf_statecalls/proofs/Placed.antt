-- In which slots states stand after a call.
use Rattle.std.proofs.Common.{arith, ℕ, ◌≡◌, ◌+◌, ◌≤◌, Bool, true, false, not, cond, List, [], ◌∷◌, ◌++◌, Option, None, Some, length, refl, ap, sym, ◌∙◌, subst, append_assoc, length-append}
use Rattle.std.specs.Prelude.{All}
use Rattle.std.proofs.lemmas.List.Elements.{All-nil, All-cons, All-head, All-tail}
use Rattle.xf_types.specs.declared.state.Sa.{Sa}
use Rattle.xf_types.specs.Changes.{Answer, shown_after}
use Rattle.xf_types.specs.Machine.{Machine, Shown}
use Rattle.xf_types.specs.PolicyList.{without}
use Rattle.xf_index.specs.Indexes.{slots_in}
use Rattle.xf_index.proofs.Entries.{slots_append}
use Rattle.xf_image.specs.Frames.{Frame}
use Rattle.xf_sadidx.specs.declared.area.StateArea.{StateArea}
use Rattle.xf_sadidx.specs.Layout.{end_of}
use Rattle.xf_sadimage.specs.States.{StatesStand}
use Rattle.xf_sad.specs.Changes.{Comes, entries_but, new_state}
use Rattle.xf_sad.specs.Places.{state_in, KeepsPlaces, slots_but, SlotCame}
use Rattle.xf_sad.specs.Slots.{Where, listed_in}
use Rattle.xf_sad.proofs.Found.{listed_is, listed_between, stands_apart}
use Rattle.xf_sad.proofs.Placings.{but_between}
use Rattle.xf_sad.proofs.Places.{KeepsEntries, keeps_is, keeps_left, keeps_came, keeps_put, keeps_all, keeps_without, entries_left, state_there, slots_left, slot_came}
use Rattle.xf_rows.specs.declared.layout.Layout.{Layout}
use Rattle.xf_rows.specs.Changes.{acquiring}
use Rattle.xf_rows.specs.Layouts.{Fits}
use Rattle.xf_rows.specs.Rows.{Row, entries_in, on_row}
use Rattle.xf_rows.specs.Values.{Beside}
use Rattle.xf_rows.specs.Stands.{Stands, machine_with}
use Rattle.xf_rows.proofs.Lists.{entries_append}
use Rattle.xf_statecalls.specs.Left.{RowAt}
use Rattle.xf_statecalls.specs.Ready.{Stood}
use Rattle.xf_statecalls.specs.Sweeps.{HasTurns, HeldIf, IsSwept}
use Rattle.xf_statecalls.proofs.Standing.{entry_at, states_behind}

-- ---- words and turns that are equal to others

pub places_as : (a : StateArea) (i j k : List ℕ) (b c : Beside) → j ≡ i → c ≡ b → KeepsPlaces a c.held j k → KeepsPlaces a b.held i k
places_as a i j k b c e f keeps =
    subst (λ (x : List ℕ). KeepsPlaces a b.held x k) e (subst (λ (x : Beside). KeepsPlaces a x.held j k) f keeps)

pub places_same : (layout : Layout) (i j : List ℕ) (b : Beside) → Stood layout i b → j ≡ i → KeepsPlaces layout.states b.held i j
places_same layout i j b h e =
    let m = h.machine in
    let r = h.stands in
    let es : List (ℕ × Sa) = entries_in r.rows in
    let st : StatesStand layout.states i m.shown es = r.on_states in
    subst (λ (x : List ℕ). KeepsPlaces layout.states b.held i x) (sym e)
    (keeps_is layout.states b.held i i m.shown m.shown es es st st (keeps_all b.held es m.shown st.listed r.machine.shown.states))

-- ---- one leaves

pub place_left : (layout : Layout) (i k : List ℕ) (b : Beside) (m : Machine) (slot : ℕ) (u : Shown) (t : RowAt layout i b m slot) → b.held slot ≡ true
    → StatesStand layout.states k u (entries_in t.place.front ++ entries_in t.place.back) → KeepsPlaces layout.states b.held i k
place_left layout i k b m slot u t held after =
    let front : List (ℕ × Sa) = entries_in t.place.front in
    let back : List (ℕ × Sa) = entries_in t.place.back in
    let es : List (ℕ × Sa) = front ++ ((slot, t.row.1.0) ∷ back) in
    let st : StatesStand layout.states i m.shown es = entry_at layout i b m slot t in
    let but : entries_but (Some slot) es ≡ front ++ back = but_between slot t.row.1.0 front back (stands_apart layout.states i m.shown es st) in
    keeps_is layout.states b.held i k m.shown u es (front ++ back) st after
    (subst (λ (fs : List (ℕ × Sa)). KeepsEntries b.held es fs) but (keeps_left b.held (Some slot) es m.shown st.listed t.stands.machine.shown.states held))

pub list_left : (layout : Layout) (i k : List ℕ) (b : Beside) (m : Machine) (slot : ℕ) (u : Shown) (t : RowAt layout i b m slot)
    → StatesStand layout.states k u (entries_in t.place.front ++ entries_in t.place.back) → listed_in layout.states k ≡ slots_but (Some slot) (listed_in layout.states i)
list_left layout i k b m slot u t after =
    let front : List (ℕ × Sa) = entries_in t.place.front in
    let back : List (ℕ × Sa) = entries_in t.place.back in
    let es : List (ℕ × Sa) = front ++ ((slot, t.row.1.0) ∷ back) in
    let st : StatesStand layout.states i m.shown es = entry_at layout i b m slot t in
    let but : entries_but (Some slot) es ≡ front ++ back = but_between slot t.row.1.0 front back (stands_apart layout.states i m.shown es st) in
    slots_left layout.states i k m.shown u (Some slot) es st (subst (λ (fs : List (ℕ × Sa)). StatesStand layout.states k u fs) (sym but) after)

pub list_less : (layout : Layout) (i k : List ℕ) (b : Beside) (m : Machine) (slot : ℕ) (u : Shown) (t : RowAt layout i b m slot)
    → StatesStand layout.states k u (entries_in t.place.front ++ entries_in t.place.back) → length (listed_in layout.states k) + 1 ≡ length (listed_in layout.states i)
list_less layout i k b m slot u t after =
    let front : List (ℕ × Sa) = entries_in t.place.front in
    let back : List (ℕ × Sa) = entries_in t.place.back in
    let old : length (listed_in layout.states i) ≡ length (slots_in front ++ (slot ∷ slots_in back)) =
    ap (λ (xs : List ℕ). length xs) (listed_between layout.states i m.shown front back slot t.row.1.0 (entry_at layout i b m slot t)) in
    let new : length (listed_in layout.states k) ≡ length (slots_in front ++ slots_in back) =
    ap (λ (xs : List ℕ). length xs) (listed_is layout.states k u (front ++ back) after ∙ slots_append front back) in
    let one = length-append (slots_in front) (slot ∷ slots_in back) in
    let two = length-append (slots_in front) (slots_in back) in
    omega (arith, old, new, one, two)

-- ---- one has another record

pub place_put : (layout : Layout) (i k : List ℕ) (b : Beside) (m : Machine) (slot : ℕ) (u : Shown) (y : Sa) (t : RowAt layout i b m slot) → b.held slot ≡ true
    → t.row.1.0.sid ≡ y.sid → StatesStand layout.states k u (entries_in t.place.front ++ ((slot, y) ∷ entries_in t.place.back)) → KeepsPlaces layout.states b.held i k
place_put layout i k b m slot u y t held same after =
    let front : List (ℕ × Sa) = entries_in t.place.front in
    let back : List (ℕ × Sa) = entries_in t.place.back in
    let st : StatesStand layout.states i m.shown (front ++ ((slot, t.row.1.0) ∷ back)) = entry_at layout i b m slot t in
    keeps_is layout.states b.held i k m.shown u (front ++ ((slot, t.row.1.0) ∷ back)) (front ++ ((slot, y) ∷ back)) st after
    (keeps_put b.held m.shown slot t.row.1.0 y front back st.listed t.stands.machine.shown.states held same)

-- ---- one comes

pub place_came : (layout : Layout) (i k : List ℕ) (b : Beside) (m : Machine) (gone : Option ℕ) (slot : ℕ) (u : Shown) (x : Sa) (r : Stands layout i b m)
    → Where (λ q. b.held q ≡ true) gone → b.held slot ≡ true → x.sid ≡ m.shown.next_sid
    → StatesStand layout.states k u (entries_but gone (entries_in r.rows) ++ ((slot, x) ∷ [])) → KeepsPlaces layout.states b.held i k
place_came layout i k b m gone slot u x r gone_held held new after =
    let es : List (ℕ × Sa) = entries_in r.rows in
    let st : StatesStand layout.states i m.shown es = r.on_states in
    keeps_is layout.states b.held i k m.shown u es (entries_but gone es ++ ((slot, x) ∷ [])) st after
    (keeps_came b.held gone es m.shown slot x st.listed r.machine.shown.states gone_held held new)

pub list_came : (layout : Layout) (i k : List ℕ) (b : Beside) (m : Machine) (gave : ℕ → Type 0) (gone : Option ℕ) (slot : ℕ) (u : Shown) (x : Sa) (r : Stands layout i b m)
    → gave slot → StatesStand layout.states k u (entries_but gone (entries_in r.rows) ++ ((slot, x) ∷ []))
    → SlotCame gave gone (listed_in layout.states i) (listed_in layout.states k)
list_came layout i k b m gave gone slot u x r given after =
    slot_came layout.states i k m.shown u gave gone slot x (entries_in r.rows) given r.on_states after

-- the words of the list were written, and then hidden ones
pub came_both : (layout : Layout) (i i1 j k : List ℕ) (b b1 : Beside) (m : Machine) (hidden seq slot : ℕ) (gave : ℕ → Type 0) (gone : Option ℕ) (rule : Answer) (r : Stands layout i1 b1 m)
    → i1 ≡ i → b1 ≡ b → Fits layout (length i1) → hidden ≤ layout.policies.base → Frame layout.states.base (end_of layout.states) i1 j → Frame 0 hidden j k
    → (x : Comes layout.states j m.shown (entries_in r.rows) gave gone slot rule) → x.shown ≡ acquiring m.shown seq
    → Where (λ q. b.held q ≡ true) gone → ((q : ℕ) → gave q → b.held q ≡ true)
    → KeepsPlaces layout.states b.held i k × SlotCame gave gone (listed_in layout.states i) (listed_in layout.states k)
came_both layout i i1 j k b b1 m hidden seq slot gave gone rule r e f fits low first then_ x shown_is gone_held held =
    let es : List (ℕ × Sa) = entries_but gone (entries_in r.rows) ++ ((slot, new_state x.shown x.new) ∷ []) in
    let after : StatesStand layout.states k (shown_after m.shown rule.change) es =
    states_behind layout j k (shown_after m.shown rule.change) es hidden (subst (λ (n : ℕ). Fits layout n) (sym first.size) fits) low then_ x.stands in
    let sid : (new_state x.shown x.new).sid ≡ m.shown.next_sid = ap (λ (s : Shown). s.next_sid) shown_is in
    let gone_held1 : Where (λ q. b1.held q ≡ true) gone = subst (λ (d : Beside). Where (λ q. d.held q ≡ true) gone) (sym f) gone_held in
    let held1 : b1.held slot ≡ true = ap (λ (d : Beside). d.held slot) f ∙ held slot x.given in (
      places_as layout.states i i1 k b b1 e f (place_came layout i1 k b1 m gone slot (shown_after m.shown rule.change) (new_state x.shown x.new) r gone_held1 held1 sid after),
      subst (λ (w : List ℕ). SlotCame gave gone (listed_in layout.states w) (listed_in layout.states k)) e
          (list_came layout i1 k b1 m gave gone slot (shown_after m.shown rule.change) (new_state x.shown x.new) r x.given after),
    )

-- ---- some leave

rows_left : (leaves : Sa → Bool) (rows : List Row) → entries_in (without (on_row leaves) rows) ≡ entries_left leaves (entries_in rows)
rows_left leaves [] = refl
rows_left leaves (r ∷ rows) = by (rows_left leaves rows) (leaves r.1.0)
  where
    by : entries_in (without (on_row leaves) rows) ≡ entries_left leaves (entries_in rows) → (b : Bool) → entries_in (cond (not b) (r ∷ without (on_row leaves) rows) (without (on_row leaves) rows))
        ≡ cond (not b) ((r.0, r.1.0) ∷ entries_left leaves (entries_in rows)) (entries_left leaves (entries_in rows))
    by rest true = rest
    by rest false = ap (λ (es : List (ℕ × Sa)). (r.0, r.1.0) ∷ es) rest

turns_entries : (b : Beside) (leaves : Sa → Bool) (rows : List Row) → All (HeldIf b leaves) rows → All (λ (e : ℕ × Sa). leaves e.1 ≡ true → b.held e.0 ≡ true) (entries_in rows)
turns_entries b leaves [] turns = All-nil (λ (e : ℕ × Sa). leaves e.1 ≡ true → b.held e.0 ≡ true)
turns_entries b leaves (r ∷ rows) turns =
    All-cons (λ (e : ℕ × Sa). leaves e.1 ≡ true → b.held e.0 ≡ true) (r.0, r.1.0) (entries_in rows) (All-head (HeldIf b leaves) r rows turns)
    (turns_entries b leaves rows (All-tail (HeldIf b leaves) r rows turns))

-- what is said of the words holds of the rows
turns_from : (layout : Layout) (i : List ℕ) (b : Beside) (m : Machine) (leaves : Sa → Bool) (r : Stands layout i b m) (front rows : List Row) → HasTurns layout.states i b leaves
    → r.rows ≡ front ++ rows → All (HeldIf b leaves) rows
turns_from layout i b m leaves r front [] h e = All-nil (HeldIf b leaves)
turns_from layout i b m leaves r front (x ∷ rows) h e =
    let st : StatesStand layout.states i m.shown (entries_in front ++ ((x.0, x.1.0) ∷ entries_in rows)) =
    subst (λ (es : List (ℕ × Sa)). StatesStand layout.states i m.shown es) (ap (λ (xs : List Row). entries_in xs) e ∙ entries_append front (x ∷ rows)) r.on_states in
    All-cons (HeldIf b leaves) x rows (λ yes. h.turns x.0 x.1.0 (state_there layout.states i m.shown (entries_in front) (entries_in rows) x.0 x.1.0 st) yes)
    (turns_from layout i b m leaves r (front ++ (x ∷ [])) rows h (e ∙ sym (append_assoc front (x ∷ []) rows)))

pub turns_rows : (layout : Layout) (i : List ℕ) (b : Beside) (m : Machine) (leaves : Sa → Bool) (r : Stands layout i b m) → HasTurns layout.states i b leaves → All (HeldIf b leaves) r.rows
turns_rows layout i b m leaves r h = turns_from layout i b m leaves r [] r.rows h refl

pub places_swept : (layout : Layout) (i k : List ℕ) (b c : Beside) (m : Machine) (leaves : Sa → Bool) (count : ℕ) (r : Stands layout i b m) → HasTurns layout.states i b leaves
    → IsSwept layout k c leaves m.shown r.rows count → KeepsPlaces layout.states b.held i k
places_swept layout i k b c m leaves count r h swept =
    let es : List (ℕ × Sa) = entries_in r.rows in
    let st : StatesStand layout.states i m.shown es = r.on_states in
    let s = swept.stands in
    let u : Shown = (machine_with m.shown (without (on_row leaves) r.rows)).shown in
    let after : StatesStand layout.states k u (entries_left leaves es) =
    subst (λ (fs : List (ℕ × Sa)). StatesStand layout.states k u fs) (ap (λ (xs : List Row). entries_in xs) s.rows_are ∙ rows_left leaves r.rows) s.stands.on_states in
    keeps_is layout.states b.held i k m.shown u es (entries_left leaves es) st after
    (keeps_without b.held leaves es m.shown st.listed r.machine.shown.states (stands_apart layout.states i m.shown es st)
    (turns_entries b leaves r.rows (turns_rows layout i b m leaves r h)))
