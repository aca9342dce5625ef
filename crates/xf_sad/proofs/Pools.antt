-- A pool that fits the slots of a list fits those of the list with one more or one less.
use Rattle.std.proofs.Common.{◌≡◌, ◌≢◌, ℕ, ◌+◌, ◌<◌, ◌==◌, ◌||◌, Bool, true, false, List, [], ◌∷◌, ◌++◌, length, refl, ap, sym, ◌∙◌, subst, arith, append-nil, length-append}
use Rattle.std.proofs.lemmas.Bool.Decides.{nat_tests}
use Rattle.xf_cells.specs.Pools.{Given, Kept}
use Rattle.xf_chain.specs.Lists.{Misses}
use Rattle.xf_chain.proofs.Slots.{misses_more, misses_less}
use Rattle.xf_sad.specs.Slots.{is_in, PoolFits, Back}

one_more : (front back : List ℕ) (slot : ℕ) → length (front ++ (slot ∷ back)) ≡ length (front ++ back) + 1
one_more front back slot = let m = length-append front (slot ∷ back) in let n = length-append front back in omega (arith, m, n)

or_right : (a b : Bool) → b ≡ true → (a || b) ≡ true
or_right true b h = refl
or_right false b h = h

in_step : (a b c : Bool) → a ≡ false → (b ≡ true → c ≡ true) → (a || b) ≡ true → c ≡ true
in_step true b c e f h = absurd (cc)
in_step false b c e f h = f h

in_cons : (a b c : Bool) → (b ≡ true → c ≡ true) → (a || b) ≡ true → (a || c) ≡ true
in_cons true b c f h = refl
in_cons false b c f h = f h

in_less : (x : ℕ) (front back : List ℕ) (slot : ℕ) → x ≢ slot → is_in x (front ++ (slot ∷ back)) ≡ true → is_in x (front ++ back) ≡ true
in_less x [] back slot n h = let a : (slot == x) ≡ false = grind (arith, nat_tests) in in_step (slot == x) (is_in x back) (is_in x back) a (λ k. k) h
in_less x (y ∷ front) back slot n h = in_cons (y == x) (is_in x (front ++ (slot ∷ back))) (is_in x (front ++ back)) (λ k. in_less x front back slot n k) h

in_more : (x : ℕ) (front back : List ℕ) (slot : ℕ) → is_in x (front ++ back) ≡ true → is_in x (front ++ (slot ∷ back)) ≡ true
in_more x [] back slot h = or_right (slot == x) (is_in x back) h
in_more x (y ∷ front) back slot h = in_cons (y == x) (is_in x (front ++ back)) (is_in x (front ++ (slot ∷ back))) (λ k. in_more x front back slot k) h

-- a slot between two parts is in the list
pub in_between : (front back : List ℕ) (slot : ℕ) → is_in slot (front ++ (slot ∷ back)) ≡ true
in_between [] back slot = let a : (slot == slot) ≡ true = grind (arith, nat_tests) in ap (λ (b : Bool). b || is_in slot back) a
in_between (y ∷ front) back slot = or_right (y == slot) (is_in slot (front ++ (slot ∷ back))) (in_between front back slot)

misses_in : (x : ℕ) (xs : List ℕ) → Misses x xs → is_in x xs ≡ false
misses_in x [] m = refl
misses_in x (y ∷ ys) m = let a : (y == x) ≡ false = (let n : x ≢ y = m.0 in grind (arith, nat_tests)) in ap (λ (b : Bool). b || is_in x ys) a ∙ misses_in x ys m.1

different : (x slot : ℕ) (xs : List ℕ) → Misses slot xs → is_in x xs ≡ true → x ≢ slot
different x slot xs m h e = let f : is_in x xs ≡ false = ap (λ (q : ℕ). is_in q xs) e ∙ misses_in slot xs m in absurd (cc)

by_slot : (x slot : ℕ) (holds : ℕ → Type 0) (b : Bool) → (x == slot) ≡ b → holds slot → (x ≢ slot → holds x) → holds x
by_slot x slot holds true e h f = let same : slot ≡ x = grind (arith, nat_tests) in subst holds same h
by_slot x slot holds false e h f = f (grind (arith, nat_tests))

-- a slot was given, and stands last
pub pool_added : (all out out' slots slot : ℕ) (lasts : Bool) (gave gives took takes : ℕ → Type 0) (list : List ℕ)
    → PoolFits all out gave took slots list → Given slot lasts out out' gave gives took takes → lasts ≡ true
    → PoolFits all out' gives takes slots (list ++ (slot ∷ []))
pool_added all out out' slots slot lasts gave gives took takes list fits given l =
    let more : length (list ++ (slot ∷ [])) ≡ length list + 1 = one_more list [] slot ∙ ap (λ xs. length xs + 1) (append-nil list) in
    let ft = fits.taken in
    let gm = given.more in
    record {
      capacity = fits.capacity;
      taken = omega (arith, more, ft, gm);
      below = λ x g. fits.below x (given.fewer x g).0;
      free = λ x g. misses_more x slot list [] (subst (λ (xs : List ℕ). Misses x xs) (sym (append-nil list)) (fits.free x (given.fewer x g).0)) (given.fewer x g).1;
      back = λ x h. by_slot x slot takes (x == slot) refl (given.this l)
          (λ n. given.still x (fits.back x (subst (λ (xs : List ℕ). is_in x xs ≡ true) (append-nil list) (in_less x list [] slot n h))));
    }

-- a slot between two parts went back
pub pool_removed : (all out out' slots slot : ℕ) (lasts : Bool) (gave gives took takes : ℕ → Type 0) (front back : List ℕ)
    → PoolFits all out gave took slots (front ++ (slot ∷ back)) → Back slot lasts out out' gave gives took takes → lasts ≡ true
    → slot < slots → Misses slot (front ++ back) → PoolFits all out' gives takes slots (front ++ back)
pool_removed all out out' slots slot lasts gave gives took takes front back fits given l below miss =
    let more : length (front ++ (slot ∷ back)) ≡ length (front ++ back) + 1 = one_more front back slot in
    let ft = fits.taken in
    let gm = given.less in
    record {
      capacity = fits.capacity;
      taken = omega (arith, more, ft, gm);
      below = λ x h. by_slot x slot (λ q. q < slots) (x == slot) refl below (λ n. fits.below x (given.gives_ x n h));
      free = λ x h. by_slot x slot (λ q. Misses q (front ++ back)) (x == slot) refl miss
          (λ n. misses_less x slot front back (fits.free x (given.gives_ x n h)));
      back = λ x h. given.takes_ l x (different x slot (front ++ back) miss h) (fits.back x (in_more x front back slot h));
    }

-- no slot was given
pub pool_kept : (all out out' slots : ℕ) (was is : Bool) (gave gives took takes : ℕ → Type 0) (list : List ℕ)
    → PoolFits all out gave took slots list → Kept out out' was is gave gives took takes → PoolFits all out' gives takes slots list
pool_kept all out out' slots was is gave gives took takes list fits kept = record {
  capacity = fits.capacity;
  taken = kept.count ∙ fits.taken;
  below = λ x h. fits.below x (kept.fewer x h);
  free = λ x h. fits.free x (kept.fewer x h);
  back = λ x h. kept.still x (fits.back x h);
}
