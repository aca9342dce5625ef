-- The value of digits, from the left.
use Rattle.std.proofs.Common.{◌≡◌, ℕ, ◌+◌, ◌-◌, ◌*◌, ◌<◌, ◌≤◌, [], ◌∷◌, None, true, arith, drop, length, get_or, suc, drop-cons}
use Rattle.std.proofs.lemmas.Bool.{lt-leb}
use Rattle.xf_words.specs.Numbers.{Word, is_decimal, number_in, value_from}

-- more digits don't make the number less
le-value_from : (n : ℕ) (word : Word) → n ≤ value_from n word
le-value_from n [] = omega arith
le-value_from n (c ∷ cs) = omega (arith, le-value_from (10 * n + (c - 48)) cs)

-- a number that is too large isn't read
number_in-none : (low high : ℕ) (word : Word) (most : ℕ) → is_decimal word ≡ true → most ≤ value_from 0 word → high < most
    → None ≡ number_in low high word
unfolding number_in
number_in-none low high word most spelled le lt = grind (arith, lt-leb (value_from 0 word) high (omega arith))

-- nothing is read at a digit that makes the number too large
pub number_past : (low high : ℕ) (word : Word) (i n : ℕ) → is_decimal word ≡ true → value_from n (drop i word) ≡ value_from 0 word
    → i < length word → high < 10 * n + (get_or word i 0 - 48) → None ≡ number_in low high word
number_past low high word i n spelled value lt more =
    let next = 10 * n + (get_or word i 0 - 48) in
    let rest : drop i word ≡ get_or word i 0 ∷ drop (suc i) word = drop-cons word i 0 lt in
    let le : next ≤ value_from n (drop i word) = rw rest (le-value_from next (drop (suc i) word)) in
    number_in-none low high word next spelled (omega (arith, value)) more
