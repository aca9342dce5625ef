-- A walk that changes the list of states goes on.
use Rattle.std.proofs.Common.{◌≡◌, ℕ, ◌+◌, ◌-◌, ◌≤◌, Bool, true, List, All, [], ◌∷◌, ◌++◌, Option, None, Some, length, length-append, refl, ap, sym, ◌∙◌, subst, arith, append_assoc}
use Rattle.std.proofs.lemmas.List.Elements.{All-tail}
use Rattle.xf_types.specs.declared.call.Event.{Event}
use Rattle.xf_types.specs.declared.call.Event.TheVariants.{PolicySoft, PolicyExpired, StateSoft, StateExpired}
use Rattle.xf_types.specs.declared.state.Sa.{Sa}
use Rattle.xf_types.specs.Machine.{Shown}
use Rattle.xf_cells.specs.Backs.{TakesBack, Lasts, TakesAny}
use Rattle.xf_chain.specs.Lists.{first_of}
use Rattle.xf_index.specs.Indexes.{slots_in, records_in}
use Rattle.xf_index.proofs.Entries.{slots_append}
use Rattle.xf_sadidx.specs.declared.area.StateArea.{StateArea}
use Rattle.xf_sadimage.specs.States.{StatesStand}
use Rattle.xf_sadlist.specs.Listed.{with_states}
use Rattle.xf_sad.specs.Slots.{PoolFits, is_in, listed_in}
use Rattle.xf_sad.proofs.Found.{listed_is, listed_between}
use Rattle.xf_sad.proofs.Pools.{in_between}
use Rattle.xf_local.specs.View.{event_of}
use Rattle.xf_rows.specs.Values.{Beside, at}
use Rattle.xf_rows.specs.Ticks.{entry_later}
use Rattle.xf_ticking.specs.declared.due.Due.{Due}
use Rattle.xf_ticking.specs.Dues.{due_by, entry_by, entries_left}
use Rattle.xf_ticking.specs.Walks.{StatesStood, HasState, StandsLeft, Aging}
use Rattle.xf_ticking.proofs.Tells.{entries_few, same_slot, turn_next, no_more, none_comes}

-- ---- one state

-- what is due makes of an entry what the report says
entry_due : (o : Option Event) (e : ℕ × Sa) → entry_by (due_by o) e ≡ entry_later o e
entry_due None e = refl
entry_due (Some (StateSoft sid)) e = refl
entry_due (Some (StateExpired sid)) e = refl
entry_due (Some (PolicySoft index)) e = refl
entry_due (Some (PolicyExpired index)) e = refl

one_left : (now : ℕ) (b : Beside) (slot : ℕ) (x : ℕ × Sa) (back : List (ℕ × Sa)) (due : Due) → x.0 ≡ slot → due ≡ due_by (event_of now (at b slot))
    → entry_by due (slot, x.1) ++ entries_left now b back ≡ entries_left now b (x ∷ back)
one_left now b slot x back due own is =
    ap (λ (d : Due). entry_by d (slot, x.1) ++ entries_left now b back) is
    ∙ ap (λ (es : List (ℕ × Sa)). es ++ entries_left now b back) (entry_due (event_of now (at b slot)) (slot, x.1))
    ∙ ap (λ (n : ℕ). entry_later (event_of now (at b n)) (n, x.1) ++ entries_left now b back) (sym own)

-- a pool that fits takes its slot back
fits_back : (a : StateArea) (words : List ℕ) (slot all out : ℕ) (gives takes : ℕ → Type 0) → HasState a words slot
    → PoolFits all out gives takes a.slots (listed_in a words) → takes slot
fits_back a words slot all out gives takes h fits =
    fits.back slot (ap (λ (xs : List ℕ). is_in slot xs) (listed_between a words h.shown h.front h.back slot h.state h.stands) ∙ in_between (slots_in h.front) (slots_in h.back) slot)

-- with one more between there is one more
one_more : (front back : List ℕ) (slot : ℕ) → length (front ++ (slot ∷ back)) ≡ length (front ++ back) + 1
one_more front back slot = let m = length-append front (slot ∷ back) in let n = length-append front back in omega (arith, m, n)

listed_one : (a : StateArea) (words : List ℕ) (slot : ℕ) (h : HasState a words slot) → length (listed_in a words) ≡ length (slots_in h.front ++ slots_in h.back) + 1
listed_one a words slot h =
    ap (λ (xs : List ℕ). length xs) (listed_between a words h.shown h.front h.back slot h.state h.stands) ∙ one_more (slots_in h.front) (slots_in h.back) slot

-- so does one that takes any slot while one is out
pub takes_back : {P : Type 0} (lasts : Bool) (taken : P → ℕ) (takes : P → ℕ → Type 0) (pool : P) (a : StateArea) (words : List ℕ) (all : ℕ) (gives : ℕ → Type 0) (slot : ℕ)
    → TakesBack lasts taken takes → HasState a words slot → (lasts ≡ true → PoolFits all (taken pool) gives (takes pool) a.slots (listed_in a words))
    → taken pool ≡ length (listed_in a words) → takes pool slot
takes_back lasts taken takes pool a words all gives slot (Lasts is) h fits out = fits_back a words slot all (taken pool) gives (takes pool) h (fits is)
takes_back lasts taken takes pool a words all gives slot (TakesAny any) h fits out = let one = listed_one a words slot h in any pool slot (omega (arith, out, one))

-- once it left as many slots are out as are listed
pub out_less : (a : StateArea) (words image : List ℕ) (slot before now : ℕ) (t : Shown) (h : HasState a words slot) → StatesStand a image t (h.front ++ h.back)
    → now + 1 ≡ before → before ≡ length (listed_in a words) → now ≡ length (listed_in a image)
out_less a words image slot before now t h new less was =
    let one = listed_one a words slot h in
    let left : length (listed_in a image) ≡ length (slots_in h.front ++ slots_in h.back) =
    ap (λ (xs : List ℕ). length xs) (listed_is a image t (h.front ++ h.back) new ∙ slots_append h.front h.back) in
    omega (arith, one, left, less, was)

-- with another record it stands in the same slot
pub listed_marked : (a : StateArea) (words image : List ℕ) (s t : Shown) (front back : List (ℕ × Sa)) (slot : ℕ) (x y : Sa)
    → StatesStand a words s (front ++ ((slot, x) ∷ back)) → StatesStand a image t (front ++ ((slot, y) ∷ back)) → listed_in a image ≡ listed_in a words
listed_marked a words image s t front back slot x y old new =
    listed_between a image t front back slot y new ∙ sym (listed_between a words s front back slot x old)

-- ---- the walk

pub aging_begins : (a : StateArea) (words : List ℕ) (now : ℕ) (b : Beside) (s : Shown) (es : List (ℕ × Sa)) (at : Option ℕ) → StatesStand a words s es
    → All (λ (x : ℕ). b.held x ≡ true) (slots_in es) → at ≡ first_of (slots_in es) → Aging a words now b s es at a.slots
aging_begins a words now b s es at st held first = record {
  front = [];
  back = es;
  at_is = first;
  left_is = entries_few a words s es st;
  turns = held;
  stands = subst (λ (ss : List Sa). StatesStand a words (with_states s ss) es) (sym st.listed) st;
  left_are = refl;
}

goes_by : (a : StateArea) (words image : List ℕ) (now : ℕ) (b : Beside) (s : Shown) (es : List (ℕ × Sa)) (slot : ℕ) (next : Option ℕ) (left : ℕ) (due : Due) (front back : List (ℕ × Sa))
    → Some slot ≡ first_of (slots_in back) → length back ≤ left → All (λ (x : ℕ). b.held x ≡ true) (slots_in back) → StatesStand a words (with_states s (records_in (front ++ back))) (front ++ back)
    → front ++ entries_left now b back ≡ entries_left now b es → due ≡ due_by (event_of now (at b slot))
    → ((t : Shown) (front back : List (ℕ × Sa)) (r : Sa) → StatesStand a words t (front ++ ((slot, r) ∷ back)) → next ≡ first_of (slots_in back))
    → ((t : Shown) (front back : List (ℕ × Sa)) (r : Sa) → StatesStand a words t (front ++ ((slot, r) ∷ back))
    → StatesStand a image (with_states t (records_in (front ++ (entry_by due (slot, r) ++ back)))) (front ++ (entry_by due (slot, r) ++ back)))
    → Aging a image now b s es next (left - 1)
goes_by a words image now b s es slot next left due front [] e len held st all is comes settles = absurd (cc)
goes_by a words image now b s es slot next left due front (x ∷ back) e len held st all is comes settles =
    let own : x.0 ≡ slot = sym (same_slot slot x.0 e) in
    let shown : Shown = with_states s (records_in (front ++ ((slot, x.1) ∷ back))) in
    let old : StatesStand a words shown (front ++ ((slot, x.1) ∷ back)) =
    subst (λ (n : ℕ). StatesStand a words (with_states s (records_in (front ++ ((n, x.1) ∷ back)))) (front ++ ((n, x.1) ∷ back))) own st in
    record {
      front = front ++ entry_by due (slot, x.1);
      back = back;
      at_is = comes shown front back x.1 old;
      left_is = omega (arith, len);
      turns = All-tail (λ (n : ℕ). b.held n ≡ true) x.0 (slots_in back) held;
      stands = subst (λ (fs : List (ℕ × Sa)). StatesStand a image (with_states s (records_in fs)) fs) (sym (append_assoc front (entry_by due (slot, x.1)) back))
          (settles shown front back x.1 old);
      left_are = append_assoc front (entry_by due (slot, x.1)) (entries_left now b back)
          ∙ (ap (λ (fs : List (ℕ × Sa)). front ++ fs) (one_left now b slot x back due own is) ∙ all);
    }

pub aging_goes : (a : StateArea) (words image : List ℕ) (now : ℕ) (b : Beside) (s : Shown) (es : List (ℕ × Sa)) (slot : ℕ) (next : Option ℕ) (left : ℕ) (due : Due)
    → Aging a words now b s es (Some slot) left → due ≡ due_by (event_of now (at b slot))
    → ((t : Shown) (front back : List (ℕ × Sa)) (r : Sa) → StatesStand a words t (front ++ ((slot, r) ∷ back)) → next ≡ first_of (slots_in back))
    → ((t : Shown) (front back : List (ℕ × Sa)) (r : Sa) → StatesStand a words t (front ++ ((slot, r) ∷ back))
    → StatesStand a image (with_states t (records_in (front ++ (entry_by due (slot, r) ++ back)))) (front ++ (entry_by due (slot, r) ++ back)))
    → Aging a image now b s es next (left - 1)
aging_goes a words image now b s es slot next left due k is comes settles =
    goes_by a words image now b s es slot next left due k.front k.back k.at_is k.left_is k.turns k.stands k.left_are is comes settles

-- a state stands in the slot that comes next
comes_by : (a : StateArea) (words : List ℕ) (s : Shown) (slot : ℕ) (front back : List (ℕ × Sa)) → Some slot ≡ first_of (slots_in back)
    → StatesStand a words (with_states s (records_in (front ++ back))) (front ++ back) → HasState a words slot
comes_by a words s slot front [] e st = absurd (cc)
comes_by a words s slot front (x ∷ back) e st =
    let own : x.0 ≡ slot = sym (same_slot slot x.0 e) in
    record {
      shown = with_states s (records_in (front ++ ((slot, x.1) ∷ back)));
      front = front;
      back = back;
      state = x.1;
      stands = subst (λ (n : ℕ). StatesStand a words (with_states s (records_in (front ++ ((n, x.1) ∷ back)))) (front ++ ((n, x.1) ∷ back))) own st;
    }

-- so it does where the walk began on some list
pub comes_here : (a : StateArea) (image words : List ℕ) (now : ℕ) (b : Beside) (slot left : ℕ) (at : Option ℕ) → at ≡ Some slot → StatesStood a image
    → ((s : Shown) (es : List (ℕ × Sa)) → StatesStand a image s es → Aging a words now b s es at left) → HasState a words slot
comes_here a image words now b slot left at e k goes =
    let w : Aging a words now b k.shown k.entries (Some slot) left =
    subst (λ (o : Option ℕ). Aging a words now b k.shown k.entries o left) e (goes k.shown k.entries k.stands) in
    comes_by a words k.shown slot w.front w.back w.at_is w.stands

-- its turn is held
pub turn_here : (a : StateArea) (image words : List ℕ) (now : ℕ) (b : Beside) (slot left : ℕ) (at : Option ℕ) → at ≡ Some slot → StatesStood a image
    → ((s : Shown) (es : List (ℕ × Sa)) → StatesStand a image s es → Aging a words now b s es at left) → b.held slot ≡ true
turn_here a image words now b slot left at e k goes =
    let w : Aging a words now b k.shown k.entries at left = goes k.shown k.entries k.stands in
    turn_next b slot w.back (sym e ∙ w.at_is) w.turns

ends_at : (a : StateArea) (words : List ℕ) (now : ℕ) (b : Beside) (s : Shown) (es front back : List (ℕ × Sa)) → back ≡ []
    → StatesStand a words (with_states s (records_in (front ++ back))) (front ++ back) → front ++ entries_left now b back ≡ entries_left now b es
    → StandsLeft a words now b s es
ends_at a words now b s es front [] = λ e st all. subst (λ (fs : List (ℕ × Sa)). StatesStand a words (with_states s (records_in fs)) fs) all st
ends_at a words now b s es front (x ∷ back) = λ e st all. absurd (cc)

pub aging_ends : (a : StateArea) (words : List ℕ) (now : ℕ) (b : Beside) (s : Shown) (es : List (ℕ × Sa)) (at : Option ℕ) (left : ℕ) → left ≡ 0
    → Aging a words now b s es at left → StandsLeft a words now b s es
aging_ends a words now b s es at left e k = ends_at a words now b s es k.front k.back (no_more k.back left e k.left_is) k.stands k.left_are

pub aging_stops : (a : StateArea) (words : List ℕ) (now : ℕ) (b : Beside) (s : Shown) (es : List (ℕ × Sa)) (at : Option ℕ) (left : ℕ) → at ≡ None
    → Aging a words now b s es at left → StandsLeft a words now b s es
aging_stops a words now b s es at left e k = ends_at a words now b s es k.front k.back (none_comes k.back (sym e ∙ k.at_is)) k.stands k.left_are
