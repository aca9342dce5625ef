-- The value of hexadecimal digits stays below a power of 16.
use Rattle.std.proofs.Common.{◌≡◌, ℕ, ◌+◌, ◌*◌, ◌<◌, ◌≤◌, ◌^◌, Bool, true, false, ◌&&◌, refl, subst, arith, suc, add-one, List, ◌∷◌, length, drop, get_or, drop-cons}
use Rattle.std.proofs.lemmas.Nat.{pow-add}
use Rattle.std.proofs.Math.Pow.{pow_mono}
use Rattle.std.proofs.lemmas.Bool.Decides.{nat_tests}
use Rattle.std.specs.Char.{is_ascii_hexdigit}
use Rattle.xf_grammar.specs.Numbers.{hex_digit, are_hex_digits}

-- a digit is below 16
pub hex_digit_small : (c : ℕ) → is_ascii_hexdigit c ≡ true → hex_digit c < 16
hex_digit_small c h = grind (arith, nat_tests)

-- one digit more is one factor of 16
four_more : (i : ℕ) → 2 ^ (4 * (i + 1)) ≡ 16 * 2 ^ (4 * i)
four_more i =
    let e : 4 * (i + 1) ≡ 4 * i + 4 = omega arith in
    let f : 2 ^ (4 * i + 4) ≡ 2 ^ (4 * i) * 2 ^ 4 = pow-add 2 (4 * i) 4 in
    rw e (omega (arith, f))

-- one digit more
pub hex_step : (v i d : ℕ) → v < 2 ^ (4 * i) → d < 16 → 16 * v + d < 2 ^ (4 * (i + 1))
hex_step v i d small digit = omega (arith, four_more i)

-- 16 digits fit 64 bits
pub hex_fits : (v i d : ℕ) → v < 2 ^ (4 * i) → i < 16 → d < 16 → 16 * v + d < 2 ^ 64
hex_fits v i d small few digit =
    let e = hex_step v i d small digit in
    let le : 4 * (i + 1) ≤ 64 = omega arith in
    let m : 2 ^ (4 * (i + 1)) ≤ 2 ^ 64 = pow_mono le in
    omega (arith, e, m)

-- the first of two tests that hold together
and_first : (a b : Bool) → (a && b) ≡ true → a ≡ true
and_first true b h = refl
and_first false b h = h

-- the second of two tests that hold together
and_second : (a b : Bool) → (a && b) ≡ true → b ≡ true
and_second true b h = h
and_second false b h = absurd (grind (arith, h))

-- the next of some digits is one
pub hex_next : (ds : List ℕ) (i : ℕ) → i < length ds → are_hex_digits (drop i ds) ≡ true → is_ascii_hexdigit (get_or ds i 0) ≡ true
hex_next ds i lt h =
    let e : drop i ds ≡ get_or ds i 0 ∷ drop (suc i) ds = drop-cons ds i 0 lt in
    and_first (is_ascii_hexdigit (get_or ds i 0)) (are_hex_digits (drop (suc i) ds)) (subst (λ xs. are_hex_digits xs ≡ true) e h)

-- and so are those after it
pub hex_rest : (ds : List ℕ) (i : ℕ) → i < length ds → are_hex_digits (drop i ds) ≡ true → are_hex_digits (drop (i + 1) ds) ≡ true
hex_rest ds i lt h =
    let e : drop i ds ≡ get_or ds i 0 ∷ drop (suc i) ds = drop-cons ds i 0 lt in
    let s : are_hex_digits (drop (suc i) ds) ≡ true =
    and_second (is_ascii_hexdigit (get_or ds i 0)) (are_hex_digits (drop (suc i) ds)) (subst (λ xs. are_hex_digits xs ≡ true) e h) in
    rw (add-one i) s
