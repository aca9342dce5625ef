-- Which slots are free after one is taken or given back, and that no more are free than there are.
use Rattle.std.proofs.Common.{◌≡◌, ◌≢◌, ℕ, suc, ◌+◌, ◌<◌, ◌≤◌, ◌-◌, ◌==◌, ◌||◌, length-set, Bool, true, false, List, [], ◌∷◌, length, drop, slice_index, slice_set, not, ◌&&◌, refl, ap, sym, ◌∙◌, subst, arith, rules}
use Rattle.std.specs.List.{AllByRecursion, IsDistinct}
use Rattle.std.proofs.Math.Seq.{drop-cons}
use Rattle.std.proofs.lemmas.Bool.Decides.{nat_tests}
use Rattle.std.proofs.lemmas.List.{drop-set, length-drop}
use Rattle.std.proofs.lemmas.Map.Steps.{length-le_from_distinct_below}
use Rattle.std.proofs.lemmas.Map.Keys.{IsDistinct-cons}
use Rattle.xf_cells.specs.Frees.{is_among, are_apart, AreFree, IsFree, IsOut}
use Rattle.xf_cells.specs.Pools.{Given}

first : (slot : ℕ) (rest : List ℕ) → is_among slot (slot ∷ rest) ≡ true
first slot rest = grind (arith, nat_tests)

further : (slot x : ℕ) (rest : List ℕ) → is_among slot rest ≡ true → is_among slot (x ∷ rest) ≡ true
further slot x rest h = grind (rules, nat_tests)

-- a slot that comes once isn't behind itself
once_in : (slot : ℕ) (rest : List ℕ) → are_apart (slot ∷ rest) ≡ true → is_among slot rest ≡ false
once_in slot rest h = by (is_among slot rest) refl h
  where
    by : (b : Bool) → is_among slot rest ≡ b → (not b && are_apart rest) ≡ true → is_among slot rest ≡ false
    by false e h = e
    by true e h = absurd (grind (rules, h))

once_more : (slot : ℕ) (rest : List ℕ) → are_apart (slot ∷ rest) ≡ true → are_apart rest ≡ true
once_more slot rest h = by (is_among slot rest) h
  where
    by : (b : Bool) → (not b && are_apart rest) ≡ true → are_apart rest ≡ true
    by false h = h
    by true h = absurd (grind (rules, h))

-- what stands in a list differs from what doesn't
other : (x slot : ℕ) (rest : List ℕ) → is_among x rest ≡ false → is_among slot rest ≡ true → slot ≢ x
other x slot rest m h e = let k : is_among x rest ≡ true = subst (λ s. is_among s rest ≡ true) e h in grind (rules, m, k)

-- a slot that isn't in a list differs from each in it
differs : (slot : ℕ) (rest : List ℕ) → is_among slot rest ≡ false → AllByRecursion (λ y. (slot == y) ≡ false) rest
differs slot [] h = tt
differs slot (y ∷ rest) h = (grind (rules, nat_tests, h), differs slot rest (grind (rules, nat_tests, h)))

distinct : (slots : List ℕ) → are_apart slots ≡ true → IsDistinct ◌==◌ slots
unfolding IsDistinct
distinct [] h = tt
distinct (slot ∷ rest) h =
    IsDistinct-cons ◌==◌ slot rest (differs slot rest (once_in slot rest h)) (distinct rest (once_more slot rest h))

-- no more slots are free than there are
pub at_most : (count : ℕ) (free : List ℕ) → AreFree count free → length free ≤ count
at_most count free f = length-le_from_distinct_below free count (distinct free f.once) f.below

-- the next slot stands in front of those that are free then
pub next_free : (slots : List ℕ) (count : ℕ) → count < length slots → drop count slots ≡ slice_index slots count ∷ drop (count + 1) slots
next_free slots count h = let e : count + 1 ≡ suc count = omega arith in drop-cons slots count 0 h ∙ ap (λ n. slice_index slots count ∷ drop n slots) (sym e)

-- what is free after the first one was given
pub fewer_free : (count slot : ℕ) (rest : List ℕ) → AreFree count (slot ∷ rest) → AreFree count rest
fewer_free count slot rest f = record {
  below = λ s h. f.below s (further s slot rest h);
  once = once_more slot rest f.once;
}

given_first : (count taken slot : ℕ) (rest : List ℕ) → AreFree count (slot ∷ rest)
    → Given slot true taken (taken + 1) (IsFree (slot ∷ rest)) (IsFree rest) (IsOut count (slot ∷ rest)) (IsOut count rest)
given_first count taken slot rest f = record {
  could = record { is = first slot rest };
  more = refl;
  fewer = λ s h. (record { is = further s slot rest h.is }, other slot s rest (once_in slot rest f.once) h.is);
  still = λ s h. record { within = h.within; is = grind (rules, nat_tests, h.is) };
  this = λ e. record { within = f.below slot (first slot rest); is = once_in slot rest f.once };
}

-- the next slot is given
pub slot_given : (slots : List ℕ) (count slot : ℕ) → count < length slots → slot ≡ slice_index slots count
    → AreFree (length slots) (drop count slots)
    → Given slot true count (count + 1) (IsFree (drop count slots)) (IsFree (drop (count + 1) slots))
    (IsOut (length slots) (drop count slots)) (IsOut (length slots) (drop (count + 1) slots))
slot_given slots count slot h s f =
    let e : drop count slots ≡ slot ∷ drop (count + 1) slots = next_free slots count h ∙ ap (λ n. n ∷ drop (count + 1) slots) (sym s) in
    subst (λ xs. Given slot true count (count + 1) (IsFree xs) (IsFree (drop (count + 1) slots)) (IsOut (length slots) xs) (IsOut (length slots) (drop (count + 1) slots)))
    (sym e) (given_first (length slots) count slot (drop (count + 1) slots) (subst (AreFree (length slots)) e f))

-- and the others stay free
pub rest_free : (slots : List ℕ) (count : ℕ) → count < length slots → AreFree (length slots) (drop count slots)
    → AreFree (length slots) (drop (count + 1) slots)
rest_free slots count h f =
    fewer_free (length slots) (slice_index slots count) (drop (count + 1) slots) (subst (AreFree (length slots)) (next_free slots count h) f)

-- what is free after a slot came back
pub more_free : (count slot : ℕ) (free : List ℕ) → AreFree count free → IsOut count free slot → AreFree count (slot ∷ free)
more_free count slot free f o = record {
  below = λ s h. within s h;
  once = grind (rules, o.is, f.once);
}
  where
    within : (s : ℕ) → is_among s (slot ∷ free) ≡ true → s < count
    within s h = by (s == slot) refl h
      where
        by : (b : Bool) → (s == slot) ≡ b → (b || is_among s free) ≡ true → s < count
        by true e h = let k : s ≡ slot = grind (rules, nat_tests, e) in omega (arith, k, o.within)
        by false e h = f.below s h

-- a slot that came back stands in front of those that were free
pub back_free : (slots : List ℕ) (count slot : ℕ) → count < length slots → drop count (slice_set slots count slot) ≡ slot ∷ drop (count + 1) slots
back_free slots count slot h = drop-set slots count slot h

-- a slot is out only where some are
pub some_out : (slots : List ℕ) (count slot : ℕ) → count ≤ length slots → AreFree (length slots) (drop count slots)
    → IsOut (length slots) (drop count slots) slot → 0 < count
some_out slots count slot l f o =
    let m : length (slot ∷ drop count slots) ≤ length slots = at_most (length slots) (slot ∷ drop count slots) (more_free (length slots) slot (drop count slots) f o) in
    let n : length (drop count slots) ≡ length slots - count = length-drop count slots in
    omega (arith, l, m, n)

-- the slots that are free when one came back
pub all_back : (slots : List ℕ) (count slot : ℕ) → count < length slots → AreFree (length slots) (drop (count + 1) slots)
    → IsOut (length slots) (drop (count + 1) slots) slot → AreFree (length (slice_set slots count slot)) (drop count (slice_set slots count slot))
all_back slots count slot h f o =
    subst (λ n. AreFree n (drop count (slice_set slots count slot))) (sym (length-set slots count slot))
    (subst (AreFree (length slots)) (sym (back_free slots count slot h)) (more_free (length slots) slot (drop (count + 1) slots) f o))

-- in terms of how many are out before a slot comes back
pub all_returned : (slots : List ℕ) (count slot : ℕ) → count ≤ length slots → AreFree (length slots) (drop count slots)
    → IsOut (length slots) (drop count slots) slot
    → AreFree (length (slice_set slots (count - 1) slot)) (drop (count - 1) (slice_set slots (count - 1) slot))
all_returned slots count slot l f o =
    let some : 0 < count = some_out slots count slot l f o in
    let e : count ≡ count - 1 + 1 = omega (arith, some) in
    all_back slots (count - 1) slot (omega (arith, some, l))
    (subst (λ n. AreFree (length slots) (drop n slots)) e f) (subst (λ n. IsOut (length slots) (drop n slots) slot) e o)

pub still_within : (slots : List ℕ) (count slot : ℕ) → count ≤ length slots → count - 1 ≤ length (slice_set slots (count - 1) slot)
still_within slots count slot l = let e = length-set slots (count - 1) slot in omega (arith, l, e)

pub ruleset take_laws = (next_free, slot_given, rest_free)

pub ruleset give_laws = (back_free, some_out)
