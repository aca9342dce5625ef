-- A state leaves its slot, in words and in values.
use Rattle.std.proofs.Common.{arith, ℕ, ◌≡◌, ◌<◌, ◌≤◌, Bool, List, ◌∷◌, ◌++◌, Option, None, Some, length, ap, sym, ◌∙◌, subst}
use Rattle.xf_types.specs.declared.state.Sa.{Sa}
use Rattle.xf_types.specs.Machine.{Machine, Shown}
use Rattle.xf_types.specs.PolicyList.{without}
use Rattle.xf_types.specs.StateList.{has_sid}
use Rattle.xf_types.specs.Changes.{LeaveThen, machine_after}
use Rattle.xf_asked.specs.Fields.{sid_at}
use Rattle.xf_asked.proofs.FieldLaws.{sid_is}
use Rattle.xf_index.specs.Indexes.{records_in, slots_in}
use Rattle.xf_image.specs.Frames.{Frame}
use Rattle.xf_sadidx.specs.declared.area.StateArea.{StateArea}
use Rattle.xf_sadidx.specs.Layout.{end_of, record_place, record_at}
use Rattle.xf_sadimage.specs.States.{StatesStand}
use Rattle.xf_sadimage.proofs.Keeping as states
use Rattle.xf_sad.specs.Slots.{PoolFits, IsListed, Where, is_in, listed_in}
use Rattle.xf_sad.proofs.Placings.{where_weaker}
use Rattle.xf_sad.proofs.Found.{state_is, listed_is, listed_between}
use Rattle.xf_sad.proofs.Pools.{in_between}
use Rattle.xf_local.specs.View.{Dead}
use Rattle.xf_rows.specs.declared.layout.Layout.{Layout}
use Rattle.xf_rows.specs.Layouts.{Fits}
use Rattle.xf_rows.specs.Rows.{Row, entries_in, on_row}
use Rattle.xf_rows.specs.Values.{Beside, value_put}
use Rattle.xf_rows.specs.Stands.{Stands, machine_with}
use Rattle.xf_rows.proofs.Keeping.{stands_apart}
use Rattle.xf_rows.proofs.Leaving.{Aside, aside, row_leaves}
use Rattle.xf_rows.proofs.Lists.{entries_append, one_left}
use Rattle.xf_statecalls.specs.Left.{RowAt, Occupied, StandsFor, around}
use Rattle.xf_statecalls.proofs.Rows.{rows_are, machine_left}
use Rattle.xf_statecalls.proofs.Others.{hidden_low}

-- ---- the entry of a row

pub entry_at : (layout : Layout) (i : List ℕ) (b : Beside) (m : Machine) (slot : ℕ) (t : RowAt layout i b m slot)
    → StatesStand layout.states i m.shown (entries_in t.place.front ++ ((slot, t.row.1.0) ∷ entries_in t.place.back))
entry_at layout i b m slot t =
    subst (λ (n : ℕ). StatesStand layout.states i m.shown (entries_in t.place.front ++ ((n, t.row.1.0) ∷ entries_in t.place.back))) t.slot_is
    (subst (λ (es : List (ℕ × Sa)). StatesStand layout.states i m.shown es)
    (ap (λ (xs : List Row). entries_in xs) t.place.whole ∙ entries_append t.place.front (t.row ∷ t.place.back)) t.stands.on_states)

pub row_within : (layout : Layout) (i : List ℕ) (b : Beside) (m : Machine) (slot : ℕ) (t : RowAt layout i b m slot) → slot < layout.states.slots
row_within layout i b m slot t =
    let a : Aside t.row t.place.front t.place.back layout.states.slots = aside layout i b m t.row t.place.front t.place.back t.stands t.place.whole in
    subst (λ (n : ℕ). n < layout.states.slots) t.slot_is a.within

pub row_record : (layout : Layout) (i : List ℕ) (b : Beside) (m : Machine) (slot : ℕ) (t : RowAt layout i b m slot) → record_at layout.states i slot ≡ Some t.row.1.0
row_record layout i b m slot t = state_is layout.states i m.shown slot (entries_in t.place.front) (entries_in t.place.back) t.row.1.0 (entry_at layout i b m slot t)

pub row_sid : (layout : Layout) (i : List ℕ) (b : Beside) (m : Machine) (slot : ℕ) (t : RowAt layout i b m slot)
    → sid_at i (record_place layout.states slot) ≡ t.row.1.0.sid
row_sid layout i b m slot t = sid_is i (record_place layout.states slot) t.row.1.0 (row_record layout i b m slot t)

pub some_same : (x y : Sa) (o : Option Sa) → Some x ≡ o → o ≡ Some y → x ≡ y
some_same x y o e f = let same : Some x ≡ Some y = e ∙ f in cc

pub none_same : (y : Sa) (o : Option Sa) → None ≡ o → o ≡ Some y → ⊥
none_same y o e f = let same : None ≡ Some y = e ∙ f in cc

-- what is read there is its record
pub row_state : (layout : Layout) (i : List ℕ) (b : Beside) (m : Machine) (slot : ℕ) (s : Sa) (t : RowAt layout i b m slot) → Some s ≡ record_at layout.states i slot → s ≡ t.row.1.0
row_state layout i b m slot s t is = some_same s t.row.1.0 (record_at layout.states i slot) is (row_record layout i b m slot t)

pub row_none : (layout : Layout) (i : List ℕ) (b : Beside) (m : Machine) (slot : ℕ) (t : RowAt layout i b m slot) → None ≡ record_at layout.states i slot → ⊥
row_none layout i b m slot t is = none_same t.row.1.0 (record_at layout.states i slot) is (row_record layout i b m slot t)

-- a pool that fits takes back its slot
pub row_back : (layout : Layout) (i : List ℕ) (b : Beside) (m : Machine) (slot all out : ℕ) (gives takes : ℕ → Type 0) (t : RowAt layout i b m slot)
    → PoolFits all out gives takes layout.states.slots (listed_in layout.states i) → takes slot
row_back layout i b m slot all out gives takes t fits =
    fits.back slot (ap (λ (xs : List ℕ). is_in slot xs)
    (listed_between layout.states i m.shown (entries_in t.place.front) (entries_in t.place.back) slot t.row.1.0 (entry_at layout i b m slot t))
    ∙ in_between (slots_in (entries_in t.place.front)) (slots_in (entries_in t.place.back)) slot)

-- words and values are equal to others
pub row_kept : (layout : Layout) (i j : List ℕ) (b c : Beside) (slot : ℕ) → j ≡ i → c ≡ b → Occupied layout i b slot → Occupied layout j c slot
row_kept layout i j b c slot e f o =
    subst (λ (k : List ℕ). Occupied layout k c slot) (sym e) (subst (λ (d : Beside). Occupied layout i d slot) (sym f) o)

-- ---- it leaves

-- words behind the hidden ones stand for the same
pub stands_behind : (layout : Layout) (j k : List ℕ) (b : Beside) (m : Machine) (hidden : ℕ) → Fits layout (length j) → hidden ≤ layout.policies.base → Frame 0 hidden j k
    → Stands layout j b m → Stands layout k b m
stands_behind layout j k b m hidden fits low frame r = stands_apart layout j k b m fits (λ q h l. frame.above q (omega (arith, h, low))) r

pub states_behind : (layout : Layout) (j k : List ℕ) (s : Shown) (es : List (ℕ × Sa)) (hidden : ℕ) → Fits layout (length j) → hidden ≤ layout.policies.base → Frame 0 hidden j k
    → StatesStand layout.states j s es → StatesStand layout.states k s es
states_behind layout j k s es hidden fits low frame st =
    let before : hidden ≤ layout.states.base = hidden_low layout (length j) hidden fits low in
    states.stands_kept layout.states j k s es fits.states (λ q h l. frame.above q (omega (arith, h, before))) st

pub left_here : (layout : Layout) (i j k : List ℕ) (b : Beside) (m : Machine) (slot hidden : ℕ) (t : RowAt layout i b m slot)
    → Fits layout (length i) → hidden ≤ layout.policies.base → Frame layout.states.base (end_of layout.states) i j → Frame 0 hidden j k
    → StatesStand layout.states j (record m.shown { states = records_in (entries_in t.place.front ++ entries_in t.place.back) }) (entries_in t.place.front ++ entries_in t.place.back)
    → StandsFor layout k (value_put b slot Dead) m.shown (around t.stands.rows t.row t.place)
left_here layout i j k b m slot hidden t fits low first then_ st =
    let x : Row = t.row in
    let front : List Row = t.place.front in
    let back : List Row = t.place.back in
    let leaves : Sa → Bool = has_sid x.1.0.sid in
    let a : Aside x front back layout.states.slots = aside layout i b m x front back t.stands t.place.whole in
    let one : without (on_row leaves) t.stands.rows ≡ front ++ back = ap (λ (xs : List Row). without (on_row leaves) xs) t.place.whole ∙ one_left x front back a.before a.behind in
    let same : machine_with m.shown (front ++ back) ≡ machine_after m (LeaveThen m.shown leaves None) =
    ap (λ (xs : List Row). machine_with m.shown xs) (sym one) ∙ machine_left layout i b m leaves t.stands in
    let fits_j : Fits layout (length j) = subst (λ (n : ℕ). Fits layout n) (sym first.size) fits in
    let words : Stands layout j (value_put b slot Dead) (machine_with m.shown (front ++ back)) =
    subst (λ (n : ℕ). Stands layout j (value_put b n Dead) (machine_with m.shown (front ++ back))) t.slot_is
    (subst (λ (n : Machine). Stands layout j (value_put b x.0 Dead) n) (sym same) (row_leaves layout i j b m x front back t.stands fits first t.place.whole st)) in
    let last : Stands layout k (value_put b slot Dead) (machine_with m.shown (front ++ back)) = stands_behind layout j k (value_put b slot Dead) (machine_with m.shown (front ++ back)) hidden fits_j low then_ words in
    let s : Shown = record m.shown { states = records_in (entries_in front ++ entries_in back) } in
    let es : StatesStand layout.states k s (entries_in (front ++ back)) =
    subst (λ (fs : List (ℕ × Sa)). StatesStand layout.states k s fs) (sym (entries_append front back)) (states_behind layout j k s (entries_in front ++ entries_in back) hidden fits_j low then_ st) in
    record { stands = last; rows_are = rows_are layout k (value_put b slot Dead) m.shown s (front ++ back) last es }

-- the same slots are listed where only hidden words were written
pub slots_behind : (layout : Layout) (j k : List ℕ) (s : Shown) (es : List (ℕ × Sa)) (hidden : ℕ) → Fits layout (length j) → hidden ≤ layout.policies.base → Frame 0 hidden j k
    → StatesStand layout.states j s es → listed_in layout.states k ≡ listed_in layout.states j
slots_behind layout j k s es hidden fits low frame st =
    listed_is layout.states k s es (states_behind layout j k s es hidden fits low frame st) ∙ sym (listed_is layout.states j s es st)

-- a pool that fits takes back the slot of a listed state, where one is named
listed_back : (a : StateArea) (i : List ℕ) (s : Shown) (es : List (ℕ × Sa)) (all out : ℕ) (gives takes : ℕ → Type 0) (slot : ℕ) → StatesStand a i s es
    → PoolFits all out gives takes a.slots (listed_in a i) → IsListed es slot → takes slot
listed_back a i s es all out gives takes slot st fits l =
    let here : StatesStand a i s (l.front ++ ((slot, l.state) ∷ l.behind)) = subst (λ (fs : List (ℕ × Sa)). StatesStand a i s fs) l.whole st in
    fits.back slot (ap (λ (xs : List ℕ). is_in slot xs) (listed_between a i s l.front l.behind slot l.state here) ∙ in_between (slots_in l.front) (slots_in l.behind) slot)

pub gone_back : (a : StateArea) (i : List ℕ) (s : Shown) (es : List (ℕ × Sa)) (all out : ℕ) (gives takes : ℕ → Type 0) (gone : Option ℕ) → StatesStand a i s es
    → PoolFits all out gives takes a.slots (listed_in a i) → Where (IsListed es) gone → Where takes gone
gone_back a i s es all out gives takes gone st fits l =
    where_weaker (IsListed es) takes gone (λ slot is. listed_back a i s es all out gives takes slot st fits is) l

pub pool_same : (a : StateArea) (i j : List ℕ) (all out : ℕ) (gives takes : ℕ → Type 0) → j ≡ i → PoolFits all out gives takes a.slots (listed_in a i)
    → PoolFits all out gives takes a.slots (listed_in a j)
pool_same a i j all out gives takes e fits = subst (λ (w : List ℕ). PoolFits all out gives takes a.slots (listed_in a w)) (sym e) fits

pub size_same : (layout : Layout) (i : List ℕ) (size now : ℕ) → length i ≡ now → now ≡ size → Fits layout size → Fits layout (length i)
size_same layout i size now e f fits = subst (λ (n : ℕ). Fits layout n) (sym (e ∙ f)) fits

pub states_same : (a : StateArea) (i j : List ℕ) (s : Shown) (es : List (ℕ × Sa)) → j ≡ i → StatesStand a i s es → StatesStand a j s es
states_same a i j s es e st = subst (λ (w : List ℕ). StatesStand a w s es) (sym e) st

pub where_all : (P : ℕ → Type 0) (o : Option ℕ) → ((x : ℕ) → P x) → Where P o
where_all P None = λ all. tt
where_all P (Some x) = λ all. all x
