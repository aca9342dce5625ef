-- A pool that fits the slots of a list fits those of the list with one more or one less.
use Rattle.std.proofs.Common.{◌≡◌, ◌≢◌, ℕ, ◌+◌, ◌<◌, ◌==◌, ◌||◌, Bool, true, false, List, [], ◌∷◌, ◌++◌, length, refl, ap, sym, ◌∙◌, subst, arith}
use Rattle.std.proofs.lemmas.Bool.Decides.{nat_tests}
use Rattle.xf_cells.specs.Pools.{Given}
use Rattle.xf_chain.specs.Lists.{Misses}
use Rattle.xf_chain.proofs.Slots.{misses_more, misses_less}
use Rattle.xf_spd.specs.Slots.{is_in, PoolFits}

one_more : (front back : List ℕ) (slot : ℕ) → length (front ++ (slot ∷ back)) ≡ length (front ++ back) + 1
one_more [] back slot = omega arith
one_more (y ∷ front) back slot = let e : length (front ++ (slot ∷ back)) ≡ length (front ++ back) + 1 = one_more front back slot in omega (arith, e)

or_right : (a b : Bool) → b ≡ true → (a || b) ≡ true
or_right true b h = refl
or_right false b h = h

in_step : (a b c : Bool) → a ≡ false → (b ≡ true → c ≡ true) → (a || b) ≡ true → c ≡ true
in_step true b c e f h = absurd (cc)
in_step false b c e f h = f h

in_cons : (a b c : Bool) → (b ≡ true → c ≡ true) → (a || b) ≡ true → (a || c) ≡ true
in_cons true b c f h = refl
in_cons false b c f h = f h

in_less : (x : ℕ) (front back : List ℕ) (slot : ℕ) → x ≢ slot → is_in x (front ++ (slot ∷ back)) ≡ true → is_in x (front ++ back) ≡ true
in_less x [] back slot n h = let a : (slot == x) ≡ false = grind (arith, nat_tests) in in_step (slot == x) (is_in x back) (is_in x back) a (λ k. k) h
in_less x (y ∷ front) back slot n h = in_cons (y == x) (is_in x (front ++ (slot ∷ back))) (is_in x (front ++ back)) (λ k. in_less x front back slot n k) h

in_more : (x : ℕ) (front back : List ℕ) (slot : ℕ) → is_in x (front ++ back) ≡ true → is_in x (front ++ (slot ∷ back)) ≡ true
in_more x [] back slot h = or_right (slot == x) (is_in x back) h
in_more x (y ∷ front) back slot h = in_cons (y == x) (is_in x (front ++ back)) (is_in x (front ++ (slot ∷ back))) (λ k. in_more x front back slot k) h

-- a slot between two parts is in the list
pub in_between : (front back : List ℕ) (slot : ℕ) → is_in slot (front ++ (slot ∷ back)) ≡ true
in_between [] back slot = let a : (slot == slot) ≡ true = grind (arith, nat_tests) in ap (λ (b : Bool). b || is_in slot back) a
in_between (y ∷ front) back slot = or_right (y == slot) (is_in slot (front ++ (slot ∷ back))) (in_between front back slot)

misses_in : (x : ℕ) (xs : List ℕ) → Misses x xs → is_in x xs ≡ false
misses_in x [] m = refl
misses_in x (y ∷ ys) m = let a : (y == x) ≡ false = (let n : x ≢ y = m.0 in grind (arith, nat_tests)) in ap (λ (b : Bool). b || is_in x ys) a ∙ misses_in x ys m.1

different : (x slot : ℕ) (xs : List ℕ) → Misses slot xs → is_in x xs ≡ true → x ≢ slot
different x slot xs m h e = let f : is_in x xs ≡ false = ap (λ (q : ℕ). is_in q xs) e ∙ misses_in slot xs m in absurd (cc)

by_slot : (x slot : ℕ) (holds : ℕ → Type 0) (b : Bool) → (x == slot) ≡ b → holds slot → (x ≢ slot → holds x) → holds x
by_slot x slot holds true e h f = let same : slot ≡ x = grind (arith, nat_tests) in subst holds same h
by_slot x slot holds false e h f = f (grind (arith, nat_tests))

-- a slot was given, and stands between two parts
pub pool_added : (all all' out out' slots slot : ℕ) (lasts : Bool) (gave gives took takes : ℕ → Type 0) (old new front back : List ℕ)
    → all' ≡ all → PoolFits all out gave took slots old → Given slot lasts out out' gave gives took takes → lasts ≡ true
    → old ≡ front ++ back → new ≡ front ++ (slot ∷ back) → PoolFits all' out' gives takes slots new
pool_added all all' out out' slots slot lasts gave gives took takes old new front back ea fits given l eo en =
    let no : length old ≡ length (front ++ back) = ap (λ (xs : List ℕ). length xs) eo in
    let nn : length new ≡ length (front ++ (slot ∷ back)) = ap (λ (xs : List ℕ). length xs) en in
    let more : length (front ++ (slot ∷ back)) ≡ length (front ++ back) + 1 = one_more front back slot in
    let ft = fits.taken in
    let gm = given.more in
    record {
      capacity = ea ∙ fits.capacity;
      taken = omega (arith, no, nn, more, ft, gm);
      below = λ x g. fits.below x (given.fewer x g).0;
      free = λ x g. subst (λ (xs : List ℕ). Misses x xs) (sym en)
          (misses_more x slot front back (subst (λ (xs : List ℕ). Misses x xs) eo (fits.free x (given.fewer x g).0)) (given.fewer x g).1);
      back = λ x h. by_slot x slot takes (x == slot) refl (given.this l)
          (λ n. given.still x (fits.back x (subst (λ (xs : List ℕ). is_in x xs ≡ true) (sym eo) (in_less x front back slot n (subst (λ (xs : List ℕ). is_in x xs ≡ true) en h)))));
    }

-- A slot was given back.
pub record Back (slot : ℕ) (lasts : Bool) (before now : ℕ) (gave gives took takes : ℕ → Type 0) : Type 0 where
  pub less : now + 1 ≡ before
  pub gives_ : (other : ℕ) → other ≢ slot → gives other → gave other
  pub takes_ : lasts ≡ true → (other : ℕ) → other ≢ slot → took other → takes other

pub pool_removed : (all all' out out' slots slot : ℕ) (lasts : Bool) (gave gives took takes : ℕ → Type 0) (old new front back : List ℕ)
    → all' ≡ all → PoolFits all out gave took slots old → Back slot lasts out out' gave gives took takes → lasts ≡ true
    → slot < slots → Misses slot (front ++ back)
    → old ≡ front ++ (slot ∷ back) → new ≡ front ++ back → PoolFits all' out' gives takes slots new
pool_removed all all' out out' slots slot lasts gave gives took takes old new front back ea fits given l below miss eo en =
    let no : length old ≡ length (front ++ (slot ∷ back)) = ap (λ (xs : List ℕ). length xs) eo in
    let nn : length new ≡ length (front ++ back) = ap (λ (xs : List ℕ). length xs) en in
    let more : length (front ++ (slot ∷ back)) ≡ length (front ++ back) + 1 = one_more front back slot in
    let ft = fits.taken in
    let gm = given.less in
    record {
      capacity = ea ∙ fits.capacity;
      taken = omega (arith, no, nn, more, ft, gm);
      below = λ x h. by_slot x slot (λ q. q < slots) (x == slot) refl below (λ n. fits.below x (given.gives_ x n h));
      free = λ x h. subst (λ (xs : List ℕ). Misses x xs) (sym en)
          (by_slot x slot (λ q. Misses q (front ++ back)) (x == slot) refl miss
          (λ n. misses_less x slot front back (subst (λ (xs : List ℕ). Misses x xs) eo (fits.free x (given.gives_ x n h)))));
      back = λ x h.
          let k : is_in x (front ++ back) ≡ true = subst (λ (xs : List ℕ). is_in x xs ≡ true) en h in
          given.takes_ l x (different x slot (front ++ back) miss k) (fits.back x (subst (λ (xs : List ℕ). is_in x xs ≡ true) (sym eo) (in_more x front back slot k)));
    }

-- a slot stands elsewhere in the list, the others as they stood
pub pool_moved : (all out slots slot : ℕ) (gives takes : ℕ → Type 0) (old new front back first last : List ℕ)
    → PoolFits all out gives takes slots old → front ++ back ≡ first ++ last
    → old ≡ front ++ (slot ∷ back) → new ≡ first ++ (slot ∷ last) → PoolFits all out gives takes slots new
pool_moved all out slots slot gives takes old new front back first last fits same eo en =
    let no : length old ≡ length (front ++ (slot ∷ back)) = ap (λ (xs : List ℕ). length xs) eo in
    let nn : length new ≡ length (first ++ (slot ∷ last)) = ap (λ (xs : List ℕ). length xs) en in
    let m1 : length (front ++ (slot ∷ back)) ≡ length (front ++ back) + 1 = one_more front back slot in
    let m2 : length (first ++ (slot ∷ last)) ≡ length (first ++ last) + 1 = one_more first last slot in
    let ms : length (front ++ back) ≡ length (first ++ last) = ap (λ (xs : List ℕ). length xs) same in
    let ft = fits.taken in
    let own : takes slot = fits.back slot (subst (λ (xs : List ℕ). is_in slot xs ≡ true) (sym eo) (in_between front back slot)) in
    record {
      capacity = fits.capacity;
      taken = omega (arith, no, nn, m1, m2, ms, ft);
      below = fits.below;
      free = λ x g.
          let m : Misses x (front ++ (slot ∷ back)) = subst (λ (xs : List ℕ). Misses x xs) eo (fits.free x g) in
          subst (λ (xs : List ℕ). Misses x xs) (sym en)
          (misses_more x slot first last (subst (λ (xs : List ℕ). Misses x xs) same (misses_less x slot front back m)) (between_not x slot front back m));
      back = λ x h. by_slot x slot takes (x == slot) refl own
          (λ n. fits.back x (subst (λ (xs : List ℕ). is_in x xs ≡ true) (sym eo) (in_more x front back slot
          (subst (λ (xs : List ℕ). is_in x xs ≡ true) (sym same) (in_less x first last slot n (subst (λ (xs : List ℕ). is_in x xs ≡ true) en h))))));
    }
  where
    between_not : (x slot : ℕ) (front back : List ℕ) → Misses x (front ++ (slot ∷ back)) → x ≢ slot
    between_not x slot [] back m = m.0
    between_not x slot (y ∷ front) back m = between_not x slot front back m.1
