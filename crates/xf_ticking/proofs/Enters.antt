-- A walk that takes turns goes on.
use Rattle.std.proofs.Common.{◌≡◌, ℕ, ◌-◌, ◌≤◌, ◌==◌, ◌||◌, Bool, true, false, List, [], ◌∷◌, ◌++◌, All, Option, None, Some, length, refl, ap, sym, ◌∙◌, subst, arith, append_assoc, append-nil, eqb-true, eq-eqb}
use Rattle.std.proofs.lemmas.Bool.Decides.{nat_tests}
use Rattle.std.proofs.lemmas.List.Elements.{All-nil, All-cons, All-tail}
use Rattle.xf_types.specs.declared.state.Sa.{Sa}
use Rattle.xf_types.specs.Machine.{Shown}
use Rattle.xf_chain.specs.Lists.{first_of}
use Rattle.xf_index.specs.Indexes.{slots_in}
use Rattle.xf_index.proofs.Entries.{slots_append}
use Rattle.xf_sadidx.specs.declared.area.StateArea.{StateArea}
use Rattle.xf_sadimage.specs.States.{StatesStand}
use Rattle.xf_sad.specs.Slots.{is_in, listed_in}
use Rattle.xf_sad.proofs.Found.{listed_is}
use Rattle.xf_sad.proofs.Pools.{in_between}
use Rattle.xf_rows.specs.declared.layout.Layout.{Layout}
use Rattle.xf_rows.specs.Values.{Beside, at}
use Rattle.xf_ticking.specs.Entered.{HasEntered}
use Rattle.xf_ticking.specs.Ready.{HoldsListed}
use Rattle.xf_ticking.specs.Walks.{StatesStood}
use Rattle.xf_ticking.proofs.Tells.{entries_few, same_slot, turn_next, turns_are, no_more, none_comes}

-- ---- slots in a list

turned : (x y : ℕ) → (x == y) ≡ (y == x)
turned x y = by (x == y) refl
  where
    by : (b : Bool) → (x == y) ≡ b → (x == y) ≡ (y == x)
    by true e = e ∙ sym (eq-eqb y x (sym (eqb-true x y e)))
    by false e = let f : (y == x) ≡ false = grind (arith, nat_tests) in e ∙ sym f

or_false : (a : Bool) → (a || false) ≡ (false || a)
or_false true = refl
or_false false = refl

or_assoc : (a b c : Bool) → (a || (b || c)) ≡ ((a || b) || c)
or_assoc true b c = refl
or_assoc false b c = refl

or_right : (a b : Bool) → b ≡ true → (a || b) ≡ true
or_right true b h = refl
or_right false b h = h

is_in_last : (x y : ℕ) (xs : List ℕ) → is_in x (xs ++ (y ∷ [])) ≡ (is_in x xs || (y == x))
is_in_last x y [] = or_false (y == x)
is_in_last x y (z ∷ xs) = ap (λ (b : Bool). (z == x) || b) (is_in_last x y xs) ∙ or_assoc (z == x) (is_in x xs) (y == x)

one_more : (a b c d : Bool) → a ≡ d → (a || (b || c)) ≡ ((b || d) || c)
one_more true true c d e = refl
one_more false true c d e = refl
one_more a false c d e = ap (λ (x : Bool). x || c) e

all_in : (held : ℕ → Bool) (xs : List ℕ) → ((x : ℕ) → is_in x xs ≡ true → held x ≡ true) → All (λ (x : ℕ). held x ≡ true) xs
all_in held [] f = All-nil (λ (x : ℕ). held x ≡ true)
all_in held (y ∷ ys) f = All-cons (λ (x : ℕ). held x ≡ true) y ys (f y (in_between [] ys y)) (all_in held ys (λ x h. f x (or_right (y == x) (is_in x ys) h)))

-- the turns of all of them are held
pub turns_entered : (layout : Layout) (i j : List ℕ) (b c : Beside) → j ≡ i → HasEntered (listed_in layout.states i) b c → HoldsListed layout j c
turns_entered layout i j b c e k =
    subst (λ (x : List ℕ). HoldsListed layout x c) (sym e)
    (all_in c.held (listed_in layout.states i) (λ x h. k.held x ∙ ap (λ (t : Bool). t || b.held x) h))

-- ---- the walk

-- The turns of those in front were taken, and those behind come yet, so many at most.
pub record Entering (b now : Beside) (entries : List (ℕ × Sa)) (at : Option ℕ) (left : ℕ) : Type 0 where
  pub front : List (ℕ × Sa)
  pub back : List (ℕ × Sa)
  pub whole : entries ≡ front ++ back
  pub at_is : at ≡ first_of (slots_in back)
  pub left_is : length back ≤ left
  pub entered : HasEntered (slots_in front) b now
  pub early : All (λ (x : ℕ). b.held x ≡ true) (slots_in entries) → All (λ (x : ℕ). b.held x ≡ true) (slots_in back)

pub entering_begins : (a : StateArea) (words : List ℕ) (s : Shown) (es : List (ℕ × Sa)) (b c : Beside) (at : Option ℕ) → c ≡ b → StatesStand a words s es
    → at ≡ first_of (slots_in es) → Entering b c es at a.slots
entering_begins a words s es b c at e st first = subst (λ (x : Beside). Entering b x es at a.slots) (sym e) (record {
  front = [];
  back = es;
  whole = refl;
  at_is = first;
  left_is = entries_few a words s es st;
  entered = record { count = refl; held = λ slot. refl; values = λ slot mine. refl };
  early = λ all. all;
})

-- one turn more
enters_one : (xs : List ℕ) (slot : ℕ) (b now next : Beside) → HasEntered xs b now → length next.values ≡ length now.values
    → ((other : ℕ) → next.held other ≡ ((other == slot) || now.held other)) → ((other : ℕ) → now.held other ≡ true → at next other ≡ at now other)
    → HasEntered (xs ++ (slot ∷ [])) b next
enters_one xs slot b now next k count held values = record {
  count = count ∙ k.count;
  held = λ other.
      held other ∙ ap (λ (t : Bool). (other == slot) || t) (k.held other)
      ∙ one_more (other == slot) (is_in other xs) (b.held other) (slot == other) (turned other slot)
      ∙ ap (λ (t : Bool). t || b.held other) (sym (is_in_last other slot xs));
  values = λ other mine. values other (k.held other ∙ or_right (is_in other xs) (b.held other) mine) ∙ k.values other mine;
}

goes_by : (es : List (ℕ × Sa)) (b now next : Beside) (slot : ℕ) (then_at : Option ℕ) (left : ℕ) (front back : List (ℕ × Sa))
    → Some slot ≡ first_of (slots_in back) → length back ≤ left → es ≡ front ++ back → HasEntered (slots_in front) b now
    → (All (λ (x : ℕ). b.held x ≡ true) (slots_in es) → All (λ (x : ℕ). b.held x ≡ true) (slots_in back))
    → length next.values ≡ length now.values → ((other : ℕ) → next.held other ≡ ((other == slot) || now.held other))
    → ((other : ℕ) → now.held other ≡ true → at next other ≡ at now other)
    → ((front back : List (ℕ × Sa)) (r : Sa) → es ≡ front ++ ((slot, r) ∷ back) → then_at ≡ first_of (slots_in back))
    → Entering b next es then_at (left - 1)
goes_by es b now next slot then_at left front [] e len whole k early count held values comes = absurd (cc)
goes_by es b now next slot then_at left front (x ∷ back) e len whole k early count held values comes =
    let own : x.0 ≡ slot = sym (same_slot slot x.0 e) in
    let old : es ≡ front ++ ((slot, x.1) ∷ back) = subst (λ (n : ℕ). es ≡ front ++ ((n, x.1) ∷ back)) own whole in
    record {
      front = front ++ (slot, x.1) ∷ [];
      back = back;
      whole = old ∙ sym (append_assoc front ((slot, x.1) ∷ []) back);
      at_is = comes front back x.1 old;
      left_is = omega (arith, len);
      entered = subst (λ (xs : List ℕ). HasEntered xs b next) (sym (slots_append front ((slot, x.1) ∷ []))) (enters_one (slots_in front) slot b now next k count held values);
      early = λ all. All-tail (λ (n : ℕ). b.held n ≡ true) x.0 (slots_in back) (early all);
    }

pub entering_goes : (a : StateArea) (words : List ℕ) (s : Shown) (es : List (ℕ × Sa)) (b now next : Beside) (slot : ℕ) (at_now then_at : Option ℕ) (left : ℕ) → StatesStand a words s es
    → at_now ≡ Some slot → Entering b now es at_now left
    → length next.values ≡ length now.values → ((other : ℕ) → next.held other ≡ ((other == slot) || now.held other))
    → ((other : ℕ) → now.held other ≡ true → at next other ≡ at now other)
    → ((t : Shown) (front back : List (ℕ × Sa)) (r : Sa) → StatesStand a words t (front ++ ((slot, r) ∷ back)) → then_at ≡ first_of (slots_in back))
    → Entering b next es then_at (left - 1)
entering_goes a words s es b now next slot at_now then_at left st e k count held values comes =
    goes_by es b now next slot then_at left k.front k.back (sym e ∙ k.at_is) k.left_is k.whole k.entered k.early count held values
    (λ front back r whole. comes s front back r (subst (λ (xs : List (ℕ × Sa)). StatesStand a words s xs) whole st))

-- the turn of the next slot is held where storing has begun
pub early_here : (layout : Layout) (words : List ℕ) (b now : Beside) (slot left : ℕ) (at : Option ℕ) → at ≡ Some slot → StatesStood layout.states words
    → ((s : Shown) (es : List (ℕ × Sa)) → StatesStand layout.states words s es → Entering b now es at left) → HoldsListed layout words b → now.held slot ≡ true
early_here layout words b now slot left at e h goes all =
    let k : Entering b now h.entries at left = goes h.shown h.entries h.stands in
    let entered = k.entered in
    let mine : b.held slot ≡ true = turn_next b slot k.back (sym e ∙ k.at_is) (k.early (turns_are layout words b h.shown h.entries h.stands all)) in
    entered.held slot ∙ or_right (is_in slot (slots_in k.front)) (b.held slot) mine

ends_by : (b now : Beside) (es front back : List (ℕ × Sa)) → back ≡ [] → es ≡ front ++ back → HasEntered (slots_in front) b now → HasEntered (slots_in es) b now
ends_by b now es front [] = λ e whole k. subst (λ (xs : List (ℕ × Sa)). HasEntered (slots_in xs) b now) (sym (whole ∙ append-nil front)) k
ends_by b now es front (x ∷ back) = λ e whole k. absurd (cc)

pub entering_ends : (a : StateArea) (words : List ℕ) (s : Shown) (es : List (ℕ × Sa)) (b now : Beside) (at : Option ℕ) (left : ℕ) → left ≡ 0 → StatesStand a words s es
    → Entering b now es at left → HasEntered (listed_in a words) b now
entering_ends a words s es b now at left e st k =
    subst (λ (xs : List ℕ). HasEntered xs b now) (sym (listed_is a words s es st)) (ends_by b now es k.front k.back (no_more k.back left e k.left_is) k.whole k.entered)

pub entering_stops : (a : StateArea) (words : List ℕ) (s : Shown) (es : List (ℕ × Sa)) (b now : Beside) (at : Option ℕ) (left : ℕ) → at ≡ None → StatesStand a words s es
    → Entering b now es at left → HasEntered (listed_in a words) b now
entering_stops a words s es b now at left e st k =
    subst (λ (xs : List ℕ). HasEntered xs b now) (sym (listed_is a words s es st)) (ends_by b now es k.front k.back (none_comes k.back (sym e ∙ k.at_is)) k.whole k.entered)
