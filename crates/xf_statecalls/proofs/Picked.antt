-- A walk that reads goes on.
use Rattle.std.proofs.Common.{arith, ℕ, ◌+◌, ◌≡◌, ◌-◌, ◌≤◌, Bool, true, false, cond, List, [], ◌∷◌, ◌++◌, Option, None, Some, length, filter, refl, ap, sym, ◌∙◌, subst, append_assoc, append-nil}
use Rattle.xf_types.specs.declared.state.Sa.{Sa}
use Rattle.xf_types.specs.Machine.{Shown}
use Rattle.xf_chain.specs.Lists.{first_of}
use Rattle.xf_chain.proofs.Slots.{slots_fit}
use Rattle.xf_index.specs.Indexes.{slots_in, records_in}
use Rattle.xf_index.proofs.Entries.{slots_length}
use Rattle.xf_sadidx.specs.declared.area.StateArea.{StateArea}
use Rattle.xf_sadimage.specs.States.{StatesStand}
use Rattle.std.proofs.lemmas.List.{length-append}
use Rattle.xf_statecalls.specs.Sweeps.{kept, Reading, Counting}

entries_few : (a : StateArea) (image : List ℕ) (s : Shown) (es : List (ℕ × Sa)) → StatesStand a image s es → length es ≤ a.slots
entries_few a image s es st =
    let chained = st.chained in
    subst (λ (n : ℕ). n ≤ a.slots) (slots_length es) (slots_fit a.slots (slots_in es) chained.apart chained.within)

pub reading_begins : (a : StateArea) (image : List ℕ) (s : Shown) (test : Sa → Bool) (es : List (ℕ × Sa)) (at : Option ℕ) → StatesStand a image s es → at ≡ first_of (slots_in es)
    → Reading test es at a.slots []
reading_begins a image s test es at st is = record { front = []; back = es; whole = refl; at_is = is; left_is = entries_few a image s es st; picked_are = refl }

filter_by : (test : Sa → Bool) (x : Sa) (xs : List Sa) (b : Bool) → cond b (x ∷ filter test xs) (filter test xs) ≡ cond b (x ∷ []) [] ++ filter test xs
filter_by test x xs true = refl
filter_by test x xs false = refl

filter_one : (test : Sa → Bool) (x : Sa) (xs : List Sa) → filter test (x ∷ xs) ≡ filter test (x ∷ []) ++ filter test xs
filter_one test x xs = filter_by test x xs (test x)

same_slot : (slot other : ℕ) → Some slot ≡ Some other → slot ≡ other
same_slot slot other e = cc

goes_by : (a : StateArea) (image : List ℕ) (s : Shown) (test : Sa → Bool) (es front back : List (ℕ × Sa)) (slot : ℕ) (next : Option ℕ) (left : ℕ) (picked more : List Sa) (state : Option Sa)
    → StatesStand a image s es → es ≡ front ++ back → Some slot ≡ first_of (slots_in back) → length back ≤ left
    → picked ++ filter test (records_in back) ≡ filter test (records_in es)
    → ((fs gs : List (ℕ × Sa)) (r : Sa) → StatesStand a image s (fs ++ ((slot, r) ∷ gs)) → next ≡ first_of (slots_in gs))
    → ((fs gs : List (ℕ × Sa)) (r : Sa) → StatesStand a image s (fs ++ ((slot, r) ∷ gs)) → state ≡ Some r)
    → more ≡ picked ++ kept test state
    → Reading test es next (left - 1) more
goes_by a image s test es front [] slot next left picked more state = λ st whole e len are at read push. absurd (cc)
goes_by a image s test es front (x ∷ back) slot next left picked more state = λ st whole e len are at read push.
    let own : x.0 ≡ slot = sym (same_slot slot x.0 e) in
    let here : StatesStand a image s (front ++ ((slot, x.1) ∷ back)) =
    subst (λ (n : ℕ). StatesStand a image s (front ++ ((n, x.1) ∷ back))) own (subst (λ (fs : List (ℕ × Sa)). StatesStand a image s fs) whole st) in
    record {
      front = front ++ (x ∷ []);
      back = back;
      whole = whole ∙ sym (append_assoc front (x ∷ []) back);
      at_is = at front back x.1 here;
      left_is = omega (arith, len);
      picked_are = ap (λ (ps : List Sa). ps ++ filter test (records_in back)) (push ∙ ap (λ (o : Option Sa). picked ++ kept test o) (read front back x.1 here))
          ∙ append_assoc picked (filter test (x.1 ∷ [])) (filter test (records_in back))
          ∙ ap (λ (ps : List Sa). picked ++ ps) (sym (filter_one test x.1 (records_in back))) ∙ are;
    }

pub reading_goes : (a : StateArea) (image : List ℕ) (s : Shown) (test : Sa → Bool) (es : List (ℕ × Sa)) (slot : ℕ) (next : Option ℕ) (left : ℕ) (picked more : List Sa) (state : Option Sa)
    → StatesStand a image s es → Reading test es (Some slot) left picked
    → ((fs gs : List (ℕ × Sa)) (r : Sa) → StatesStand a image s (fs ++ ((slot, r) ∷ gs)) → next ≡ first_of (slots_in gs))
    → ((fs gs : List (ℕ × Sa)) (r : Sa) → StatesStand a image s (fs ++ ((slot, r) ∷ gs)) → state ≡ Some r)
    → more ≡ picked ++ kept test state
    → Reading test es next (left - 1) more
reading_goes a image s test es slot next left picked more state st k at read push =
    goes_by a image s test es k.front k.back slot next left picked more state st k.whole k.at_is k.left_is k.picked_are at read push

no_more : (back : List (ℕ × Sa)) (left : ℕ) → left ≡ 0 → length back ≤ left → back ≡ []
no_more [] left = λ e l. refl
no_more (x ∷ back) left = λ e l. absurd (omega (arith, e, l))

none_comes : (back : List (ℕ × Sa)) → None ≡ first_of (slots_in back) → back ≡ []
none_comes [] = λ e. refl
none_comes (x ∷ back) = λ e. absurd (cc)

ends_at : (test : Sa → Bool) (es back : List (ℕ × Sa)) (picked : List Sa) → back ≡ [] → picked ++ filter test (records_in back) ≡ filter test (records_in es) → picked ≡ filter test (records_in es)
ends_at test es [] picked = λ e are. sym (append-nil picked) ∙ are
ends_at test es (x ∷ back) picked = λ e are. absurd (cc)

pub reading_ends : (a : StateArea) (image : List ℕ) (s : Shown) (test : Sa → Bool) (es : List (ℕ × Sa)) (at : Option ℕ) (left : ℕ) (picked : List Sa) → StatesStand a image s es → left ≡ 0
    → Reading test es at left picked → picked ≡ filter test s.states
reading_ends a image s test es at left picked st e k =
    ends_at test es k.back picked (no_more k.back left e k.left_is) k.picked_are ∙ ap (λ (ss : List Sa). filter test ss) st.listed

pub reading_stops : (a : StateArea) (image : List ℕ) (s : Shown) (test : Sa → Bool) (es : List (ℕ × Sa)) (at : Option ℕ) (left : ℕ) (picked : List Sa) → StatesStand a image s es → at ≡ None
    → Reading test es at left picked → picked ≡ filter test s.states
reading_stops a image s test es at left picked st e k =
    ends_at test es k.back picked (none_comes k.back (sym e ∙ k.at_is)) k.picked_are ∙ ap (λ (ss : List Sa). filter test ss) st.listed

-- ---- how many

pub counting_begins : (a : StateArea) (image : List ℕ) (s : Shown) (test : Sa → Bool) (es : List (ℕ × Sa)) (at : Option ℕ) → StatesStand a image s es → at ≡ first_of (slots_in es)
    → Counting test es at a.slots 0
counting_begins a image s test es at st is = record { picked = []; reading = reading_begins a image s test es at st is; count_is = refl }

longer : (picked more : List Sa) (count one : ℕ) → count ≡ length picked → one ≡ length more → count + one ≡ length (picked ++ more)
longer picked more count one e f = let n : length (picked ++ more) ≡ length picked + length more = length-append picked more in omega (arith, e, f, n)

pub counting_goes : (a : StateArea) (image : List ℕ) (s : Shown) (test : Sa → Bool) (es : List (ℕ × Sa)) (slot : ℕ) (next : Option ℕ) (left count one : ℕ) (state : Option Sa)
    → StatesStand a image s es → Counting test es (Some slot) left count
    → ((fs gs : List (ℕ × Sa)) (r : Sa) → StatesStand a image s (fs ++ ((slot, r) ∷ gs)) → next ≡ first_of (slots_in gs))
    → ((fs gs : List (ℕ × Sa)) (r : Sa) → StatesStand a image s (fs ++ ((slot, r) ∷ gs)) → state ≡ Some r)
    → one ≡ length (kept test state)
    → Counting test es next (left - 1) (count + one)
counting_goes a image s test es slot next left count one state st k at read is = record {
  picked = k.picked ++ kept test state;
  reading = reading_goes a image s test es slot next left k.picked (k.picked ++ kept test state) state st k.reading at read refl;
  count_is = longer k.picked (kept test state) count one k.count_is is;
}

pub counting_ends : (a : StateArea) (image : List ℕ) (s : Shown) (test : Sa → Bool) (es : List (ℕ × Sa)) (at : Option ℕ) (left count : ℕ) → StatesStand a image s es → left ≡ 0
    → Counting test es at left count → count ≡ length (filter test s.states)
counting_ends a image s test es at left count st e k =
    k.count_is ∙ ap (λ (ps : List Sa). length ps) (reading_ends a image s test es at left k.picked st e k.reading)

pub counting_stops : (a : StateArea) (image : List ℕ) (s : Shown) (test : Sa → Bool) (es : List (ℕ × Sa)) (at : Option ℕ) (left count : ℕ) → StatesStand a image s es → at ≡ None
    → Counting test es at left count → count ≡ length (filter test s.states)
counting_stops a image s test es at left count st e k =
    k.count_is ∙ ap (λ (ps : List Sa). length ps) (reading_stops a image s test es at left k.picked st e k.reading)
