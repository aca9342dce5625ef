-- How keys agree.
use Rattle.std.proofs.Common.{◌≡◌, ◌≢◌, ℕ, ◌+◌, ◌-◌, ◌/◌, ◌%◌, ◌^◌, ◌<◌, ◌≤◌, Bool, ap, arith, eq-eqb, false, refl, sym, true, ◌==◌, ◌∙◌}
use Rattle.std.proofs.Math.Nat.{div-div-eq-div-mul}
use Rattle.std.proofs.lemmas.Bool.{eqb-true, false_from_ne_true}
use Rattle.std.proofs.lemmas.Bool.Decides.{nat_tests}
use Rattle.std.proofs.lemmas.Nat.{pow-add}
use Rattle.xf_trie.specs.Keys.{agrees, bit, first_of}
use Rattle.xf_trie.proofs.Bools.{not_both}

first_split : (a m n : ℕ) → m ≤ n → first_of a m ≡ first_of a n / 2 ^ ((128 - m) - (128 - n))
first_split a m n h =
    let e : 128 - m ≡ (128 - n) + ((128 - m) - (128 - n)) = omega arith in
    ap (λ x. a / 2 ^ x) e ∙ ap (λ d. a / d) (pow-add 2 (128 - n) ((128 - m) - (128 - n)))
    ∙ sym (div-div-eq-div-mul a (2 ^ (128 - n)) (2 ^ ((128 - m) - (128 - n))))

first_less : (a b m n : ℕ) → m ≤ n → first_of a n ≡ first_of b n → first_of a m ≡ first_of b m
first_less a b m n h e =
    first_split a m n h ∙ ap (λ x. x / 2 ^ ((128 - m) - (128 - n))) e ∙ sym (first_split b m n h)

first_half : (a n : ℕ) → n < 128 → first_of a n ≡ first_of a (n + 1) / 2
first_half a n h =
    let e : (128 - n) - (128 - (n + 1)) ≡ 1 = omega arith in
    first_split a n (n + 1) (omega arith) ∙ ap (λ k. first_of a (n + 1) / 2 ^ k) e

bit_is : (a n : ℕ) → bit a n ≡ (first_of a (n + 1) % 2 == 1)
unfolding bit
bit_is a n =
    let e : 127 - n ≡ 128 - (n + 1) = omega arith in
    ap (λ k. a / 2 ^ k % 2 == 1) e

halves : (x y : ℕ) → x / 2 ≡ y / 2 → (x % 2 == 1) ≡ (y % 2 == 1) → x ≡ y
halves x y h e = grind (arith, nat_tests)

pub agrees_self : (a n : ℕ) → agrees a a n ≡ true
unfolding agrees
agrees_self a n = eq-eqb _ _ refl

pub agrees_sym : (a b n : ℕ) → agrees a b n ≡ true → agrees b a n ≡ true
unfolding agrees
agrees_sym a b n h = eq-eqb _ _ (sym (eqb-true _ _ h))

pub agrees_trans : (a b c n : ℕ) → agrees a b n ≡ true → agrees b c n ≡ true → agrees a c n ≡ true
unfolding agrees
agrees_trans a b c n h k = eq-eqb _ _ (eqb-true _ _ h ∙ eqb-true _ _ k)

pub agrees_less : (a b m n : ℕ) → m ≤ n → agrees a b n ≡ true → agrees a b m ≡ true
unfolding agrees
agrees_less a b m n h e = eq-eqb _ _ (first_less a b m n h (eqb-true _ _ e))

pub agrees_more : (a b n : ℕ) → n < 128 → agrees a b n ≡ true → bit a n ≡ bit b n → agrees a b (n + 1) ≡ true
unfolding agrees
agrees_more a b n h e s =
    eq-eqb _ _ (halves (first_of a (n + 1)) (first_of b (n + 1))
    (sym (first_half a n h) ∙ eqb-true _ _ e ∙ first_half b n h)
    (sym (bit_is a n) ∙ s ∙ bit_is b n))

pub bit_same : (a b n m : ℕ) → n < m → agrees a b m ≡ true → bit a n ≡ bit b n
unfolding agrees
bit_same a b n m h e =
    bit_is a n ∙ ap (λ x. x % 2 == 1) (first_less a b (n + 1) m (omega arith) (eqb-true _ _ e)) ∙ sym (bit_is b n)

-- a key that misses a prefix misses each that begins with it
pub miss_below : (p q key n m : ℕ) → n ≤ m → agrees p q n ≡ true → agrees p key n ≡ false → agrees q key m ≡ false
miss_below p q key n m h a f =
    false_from_ne_true _ (λ e. not_both _ (agrees_trans p q key n a (agrees_less q key n m h e)) f)

-- a key that goes to the other side misses each prefix of this side
pub miss_side : (p key n m : ℕ) (side : Bool) → n < m → bit p n ≡ side → bit key n ≢ side → agrees p key m ≡ false
miss_side p key n m side h s f = false_from_ne_true _ (λ e. f (sym (bit_same p key n m h e) ∙ s))
