-- The slots in their order, which are all free at first.
use Rattle.std.proofs.Common.{◌≡◌, ◌≢◌, ℕ, zero, suc, ◌+◌, ◌<◌, ◌≤◌, ◌==◌, ◌||◌, Bool, true, false, List, [], ◌∷◌, ◌++◌, length, take, slice_set, refl, ap, sym, ◌∙◌, subst, arith, rules}
use Rattle.std.specs.List.{range_with_len}
use Rattle.std.proofs.lemmas.Bool.Decides.{nat_tests}
use Rattle.std.proofs.lemmas.List.{take_more_set, take_all}
use Rattle.std.proofs.lemmas.List.FromFn.{length-range_with_len}
use Rattle.xf_cells.specs.Frees.{is_among, are_apart, AreFree, IsFree}
use Rattle.xf_cells.specs.Pools.{IsFull}

-- one number more
range_next : (from count last : ℕ) → from + count ≡ last → range_with_len from (suc count) ≡ range_with_len from count ++ (last ∷ [])
range_next from zero last e = let f : from ≡ last = omega (arith, e) in ap (λ n. n ∷ []) f
range_next from (suc count) last e = ap (λ xs. from ∷ xs) (range_next (from + 1) count last (omega (arith, e)))

range_more : (count : ℕ) → range_with_len 0 (count + 1) ≡ range_with_len 0 count ++ (count ∷ [])
range_more count =
    let e : count + 1 ≡ suc count = omega arith in
    ap (range_with_len 0) e ∙ range_next 0 count count (omega arith)

-- the next place has its own number too
pub numbered : (slots : List ℕ) (count : ℕ) → count < length slots → take count slots ≡ range_with_len 0 count
    → take (count + 1) (slice_set slots count count) ≡ range_with_len 0 (count + 1)
numbered slots count h e =
    take_more_set slots count count h ∙ (ap (λ xs. xs ++ (count ∷ [])) e ∙ sym (range_more count))

pub all_numbered : (slots : List ℕ) (count : ℕ) → length slots ≤ count → take count slots ≡ range_with_len 0 count → slots ≡ range_with_len 0 count
all_numbered slots count h e = sym (take_all count slots h) ∙ e

-- numbers from one on: each is below their end, and comes once
in_range : (from count slot : ℕ) → is_among slot (range_with_len from count) ≡ true → (from ≤ slot) × (slot < from + count)
in_range from zero slot h = absurd (grind (rules, h))
in_range from (suc count) slot h = by (slot == from) refl (in_range (from + 1) count slot) h
  where
    by : (b : Bool) → (slot == from) ≡ b
        → (is_among slot (range_with_len (from + 1) count) ≡ true → (from + 1 ≤ slot) × (slot < from + 1 + count))
        → (b || is_among slot (range_with_len (from + 1) count)) ≡ true → (from ≤ slot) × (slot < from + suc count)
    by true e more h = let k : slot ≡ from = grind (rules, nat_tests, e) in (omega (arith, k), omega (arith, k))
    by false e more h = let k = more h in (omega (arith, k.0), omega (arith, k.1))

before_range : (from count slot : ℕ) → slot < from → is_among slot (range_with_len from count) ≡ false
before_range from zero slot h = refl
before_range from (suc count) slot h = grind (rules, nat_tests, h, before_range (from + 1) count slot (omega (arith, h)))

range_apart : (from count : ℕ) → are_apart (range_with_len from count) ≡ true
range_apart from zero = refl
range_apart from (suc count) = grind (rules, before_range (from + 1) count from (omega arith), range_apart (from + 1) count)

range_has : (from count slot : ℕ) → from ≤ slot → slot < from + count → is_among slot (range_with_len from count) ≡ true
range_has from zero slot l h = absurd (omega (arith, l, h))
range_has from (suc count) slot l h = by (slot == from) refl (range_has (from + 1) count slot)
  where
    by : (b : Bool) → (slot == from) ≡ b
        → (from + 1 ≤ slot → slot < from + 1 + count → is_among slot (range_with_len (from + 1) count) ≡ true)
        → (b || is_among slot (range_with_len (from + 1) count)) ≡ true
    by true e more = refl
    by false e more = let k : slot ≢ from = grind (rules, nat_tests, e) in more (omega (arith, l, k)) (omega (arith, h))

-- all slots are free at first
pub free_at_first : (slots : List ℕ) (count : ℕ) → slots ≡ range_with_len 0 count → AreFree (length slots) slots
free_at_first slots count e =
    let l : length slots ≡ count = ap length e ∙ length-range_with_len 0 count in
    record {
      below = λ slot h. let k = in_range 0 count slot (subst (λ xs. is_among slot xs ≡ true) e h) in omega (arith, l, k.1);
      once = ap are_apart e ∙ range_apart 0 count;
    }

pub full_at_first : (slots : List ℕ) (count : ℕ) → slots ≡ range_with_len 0 count → IsFull count (length slots) 0 (IsFree slots)
full_at_first slots count e =
    let l : length slots ≡ count = ap length e ∙ length-range_with_len 0 count in
    record {
      room = l;
      none = refl;
      each = λ slot h. record { is = subst (λ xs. is_among slot xs ≡ true) (sym e) (range_has 0 count slot (omega arith) (omega (arith, h))) };
      only = λ slot h. let k = in_range 0 count slot (subst (λ xs. is_among slot xs ≡ true) e h.is) in omega (arith, k.1);
    }

pub ruleset number_laws = (numbered, all_numbered)

pub ruleset new_laws = (free_at_first, full_at_first)
