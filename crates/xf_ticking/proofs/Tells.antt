-- A walk that asks the values goes on.
use Rattle.std.proofs.Common.{◌≡◌, ℕ, ◌+◌, ◌-◌, ◌≤◌, true, List, All, [], ◌∷◌, ◌++◌, Option, None, Some, length, refl, ap, sym, ◌∙◌, subst, arith, append_assoc, append-nil, length-append}
use Rattle.std.specs.List.{cons_option}
use Rattle.std.specs.Prelude.{option_to_list}
use Rattle.std.proofs.lemmas.List.Elements.{All-head, All-tail, filter_map-append}
use Rattle.xf_types.specs.declared.call.Event.{Event}
use Rattle.xf_types.specs.declared.state.Sa.{Sa}
use Rattle.xf_types.specs.Machine.{Shown}
use Rattle.xf_chain.specs.Lists.{first_of}
use Rattle.xf_chain.proofs.Slots.{slots_fit}
use Rattle.xf_index.specs.Indexes.{slots_in}
use Rattle.xf_index.proofs.Entries.{slots_append, slots_length}
use Rattle.xf_sadidx.specs.declared.area.StateArea.{StateArea}
use Rattle.xf_sadimage.specs.States.{StatesStand}
use Rattle.xf_sad.proofs.Found.{listed_is, stands_apart, stands_within}
use Rattle.xf_local.specs.View.{event_of}
use Rattle.xf_rows.specs.declared.layout.Layout.{Layout}
use Rattle.xf_rows.specs.Values.{Beside, at}
use Rattle.xf_ticking.specs.Ready.{HoldsListed}
use Rattle.xf_ticking.specs.Told.{told}
use Rattle.xf_ticking.specs.Walks.{Telling}

-- ---- entries and their slots

-- there are no more states than slots
pub entries_few : (a : StateArea) (image : List ℕ) (s : Shown) (es : List (ℕ × Sa)) → StatesStand a image s es → length es ≤ a.slots
entries_few a image s es st =
    subst (λ (n : ℕ). n ≤ a.slots) (slots_length es) (slots_fit a.slots (slots_in es) (stands_apart a image s es st) (stands_within a image s es st))

pub same_slot : (slot other : ℕ) → Some slot ≡ Some other → slot ≡ other
same_slot slot other e = cc

pub no_more : (back : List (ℕ × Sa)) (left : ℕ) → left ≡ 0 → length back ≤ left → back ≡ []
no_more [] left = λ e l. refl
no_more (x ∷ back) left = λ e l. absurd (omega (arith, e, l))

pub none_comes : (back : List (ℕ × Sa)) → None ≡ first_of (slots_in back) → back ≡ []
none_comes [] = λ e. refl
none_comes (x ∷ back) = λ e. absurd (cc)

-- ---- turns that are held

-- of the slots of the entries that the words stand for
pub turns_are : (layout : Layout) (i : List ℕ) (b : Beside) (s : Shown) (es : List (ℕ × Sa)) → StatesStand layout.states i s es → HoldsListed layout i b
    → All (λ (x : ℕ). b.held x ≡ true) (slots_in es)
turns_are layout i b s es st held = subst (λ (xs : List ℕ). All (λ (x : ℕ). b.held x ≡ true) xs) (listed_is layout.states i s es st) held

-- after loads that left words and values
pub turns_same : (layout : Layout) (i j : List ℕ) (b c : Beside) → j ≡ i → c ≡ b → HoldsListed layout i b → HoldsListed layout j c
turns_same layout i j b c e f held = subst (λ (x : List ℕ). HoldsListed layout x c) (sym e) (subst (λ (d : Beside). HoldsListed layout i d) (sym f) held)

-- of the slot that comes next
pub turn_next : (b : Beside) (slot : ℕ) (back : List (ℕ × Sa)) → Some slot ≡ first_of (slots_in back) → All (λ (x : ℕ). b.held x ≡ true) (slots_in back) → b.held slot ≡ true
turn_next b slot [] e held = absurd (cc)
turn_next b slot (x ∷ back) e held =
    subst (λ (n : ℕ). b.held n ≡ true) (sym (same_slot slot x.0 e)) (All-head (λ (n : ℕ). b.held n ≡ true) x.0 (slots_in back) held)

pub turn_told : (now : ℕ) (b : Beside) (es : List (ℕ × Sa)) (slot : ℕ) (at : Option ℕ) (left : ℕ) (Holds : List Event → Type 0) → at ≡ Some slot
    → Telling now b es at left Holds → b.held slot ≡ true
turn_told now b es slot at left Holds e k = turn_next b slot k.back (sym e ∙ k.at_is) k.turns

-- ---- what was heard

one_told : (o : Option Event) → cons_option o [] ≡ option_to_list o
one_told None = refl
one_told (Some e) = refl

told_more : (now : ℕ) (b : Beside) (front : List (ℕ × Sa)) (slot : ℕ) (r : Sa)
    → told now b (slots_in (front ++ ((slot, r) ∷ []))) ≡ told now b (slots_in front) ++ option_to_list (event_of now (at b slot))
told_more now b front slot r =
    ap (λ (xs : List ℕ). told now b xs) (slots_append front ((slot, r) ∷ []))
    ∙ filter_map-append (λ (x : ℕ). event_of now (at b x)) (slots_in front) (slot ∷ [])
    ∙ ap (λ (es : List Event). told now b (slots_in front) ++ es) (one_told (event_of now (at b slot)))

-- one more is counted
pub count_more : (n one : ℕ) (o p : Option Event) (xs : List Event) → o ≡ p → one ≡ length (option_to_list o) → n ≡ length xs → n + one ≡ length (xs ++ option_to_list p)
count_more n one o p xs e f g =
    let h : length (option_to_list o) ≡ length (option_to_list p) = ap (λ (x : Option Event). length (option_to_list x)) e in
    let l : length (xs ++ option_to_list p) ≡ length xs + length (option_to_list p) = length-append xs (option_to_list p) in
    omega (arith, f, g, h, l)

-- one more stands behind those so far
pub events_more : (before old new : List Event) (o p : Option Event) (xs : List Event) → o ≡ p → new ≡ old ++ option_to_list o → old ≡ before ++ xs
    → new ≡ before ++ (xs ++ option_to_list p)
events_more before old new o p xs e f g =
    f ∙ (ap (λ (x : Option Event). old ++ option_to_list x) e ∙ (ap (λ (ys : List Event). ys ++ option_to_list p) g ∙ append_assoc before xs (option_to_list p)))

-- ---- the walk

pub telling_begins : (a : StateArea) (image : List ℕ) (now : ℕ) (b : Beside) (s : Shown) (es : List (ℕ × Sa)) (at : Option ℕ) (Holds : List Event → Type 0)
    → StatesStand a image s es → All (λ (x : ℕ). b.held x ≡ true) (slots_in es) → at ≡ first_of (slots_in es) → Holds [] → Telling now b es at a.slots Holds
telling_begins a image now b s es at Holds st held first none =
    record { front = []; back = es; whole = refl; at_is = first; left_is = entries_few a image s es st; turns = held; holds = none }

goes_by : (now : ℕ) (b : Beside) (es : List (ℕ × Sa)) (slot : ℕ) (next : Option ℕ) (left : ℕ) (Holds Then : List Event → Type 0) (front back : List (ℕ × Sa))
    → Some slot ≡ first_of (slots_in back) → length back ≤ left → All (λ (x : ℕ). b.held x ≡ true) (slots_in back) → es ≡ front ++ back → Holds (told now b (slots_in front))
    → ((front back : List (ℕ × Sa)) (r : Sa) → es ≡ front ++ ((slot, r) ∷ back) → next ≡ first_of (slots_in back))
    → ((xs : List Event) → Holds xs → Then (xs ++ option_to_list (event_of now (at b slot))))
    → Telling now b es next (left - 1) Then
goes_by now b es slot next left Holds Then front [] e len held whole holds comes step = absurd (cc)
goes_by now b es slot next left Holds Then front (x ∷ back) e len held whole holds comes step =
    let own : x.0 ≡ slot = sym (same_slot slot x.0 e) in
    let old : es ≡ front ++ ((slot, x.1) ∷ back) = subst (λ (n : ℕ). es ≡ front ++ ((n, x.1) ∷ back)) own whole in
    record {
      front = front ++ (slot, x.1) ∷ [];
      back = back;
      whole = old ∙ sym (append_assoc front ((slot, x.1) ∷ []) back);
      at_is = comes front back x.1 old;
      left_is = omega (arith, len);
      turns = All-tail (λ (n : ℕ). b.held n ≡ true) x.0 (slots_in back) held;
      holds = subst Then (sym (told_more now b front slot x.1)) (step (told now b (slots_in front)) holds);
    }

pub telling_goes : (a : StateArea) (image : List ℕ) (now : ℕ) (b : Beside) (s : Shown) (es : List (ℕ × Sa)) (slot : ℕ) (next : Option ℕ) (left : ℕ)
    (Holds Then : List Event → Type 0) → StatesStand a image s es → Telling now b es (Some slot) left Holds
    → ((t : Shown) (front back : List (ℕ × Sa)) (r : Sa) → StatesStand a image t (front ++ ((slot, r) ∷ back)) → next ≡ first_of (slots_in back))
    → ((xs : List Event) → Holds xs → Then (xs ++ option_to_list (event_of now (at b slot))))
    → Telling now b es next (left - 1) Then
telling_goes a image now b s es slot next left Holds Then st k comes step =
    goes_by now b es slot next left Holds Then k.front k.back k.at_is k.left_is k.turns k.whole k.holds
    (λ front back r whole. comes s front back r (subst (λ (xs : List (ℕ × Sa)). StatesStand a image s xs) whole st)) step

ends_by : (now : ℕ) (b : Beside) (es front back : List (ℕ × Sa)) (Holds : List Event → Type 0) → back ≡ [] → es ≡ front ++ back
    → Holds (told now b (slots_in front)) → Holds (told now b (slots_in es))
ends_by now b es front [] Holds = λ e whole holds.
    subst Holds (ap (λ (xs : List (ℕ × Sa)). told now b (slots_in xs)) (sym (whole ∙ append-nil front))) holds
ends_by now b es front (x ∷ back) Holds = λ e whole holds. absurd (cc)

pub telling_ends : (now : ℕ) (b : Beside) (es : List (ℕ × Sa)) (at : Option ℕ) (left : ℕ) (Holds : List Event → Type 0) → left ≡ 0 → Telling now b es at left Holds
    → Holds (told now b (slots_in es))
telling_ends now b es at left Holds e k = ends_by now b es k.front k.back Holds (no_more k.back left e k.left_is) k.whole k.holds

pub telling_stops : (now : ℕ) (b : Beside) (es : List (ℕ × Sa)) (at : Option ℕ) (left : ℕ) (Holds : List Event → Type 0) → at ≡ None → Telling now b es at left Holds
    → Holds (told now b (slots_in es))
telling_stops now b es at left Holds e k = ends_by now b es k.front k.back Holds (none_comes k.back (sym e ∙ k.at_is)) k.whole k.holds
