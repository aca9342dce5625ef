-- A number is read exactly where it is written in decimal.
use Rattle.std.proofs.Common.{◌≡◌, ℕ, ◌+◌, ◌-◌, ◌*◌, ◌^◌, ◌<◌, ◌≤◌, ◌==◌, ◌&&◌, ◌||◌, not, nat_le, nat_lt, List, [], ◌∷◌, None, Some, true, refl, sym, ap, ◌∙◌, arith, rules, drop, length, get_or, suc, drop-cons, decimal, inl, inr, lt-ltb, le-leb, ne_eqb, eq-eqb, eqb-true}
use Rattle.std.proofs.lemmas.Bool.{lt-leb, leb-true, ltb-true, and_parts, cases_eq}
use Rattle.std.proofs.lemmas.Fmt.{decimal_nonempty, digits_decimal, digits_value-decimal, decimal-digits_value, first_decimal, decimal_digit}
use Rattle.std.proofs.lemmas.Str.Parse.{IsNumeralModel, numerals_by_fold, tells_all_ascii_digits}
use Rattle.std.proofs.NetLemmas.Options.{cond_some}
use Rattle.std.specs.Str.{all_ascii_digits}
use Rattle.xf_addr.specs.Numbers.{value_from, is_decimal, number_of}

-- more digits don't make the number less
le-value_from : (n : ℕ) (word : List ℕ) → n ≤ value_from n word
le-value_from n [] = omega arith
le-value_from n (c ∷ cs) = omega (arith, le-value_from (10 * n + (c - 48)) cs)

-- a number that is too large isn't read
number_none : (max : ℕ) (word : List ℕ) (most : ℕ) → is_decimal word ≡ true → most ≤ value_from 0 word → max < most
    → None ≡ number_of max word
unfolding number_of
number_none max word most spelled le lt = rw (spelled, lt-leb (value_from 0 word) max (omega arith)) refl

-- a number that isn't too large is read
number_some : (max : ℕ) (word : List ℕ) (n : ℕ) → is_decimal word ≡ true → n ≡ value_from 0 word → n ≤ max
    → Some n ≡ number_of max word
unfolding number_of
number_some max word n spelled value le = rw (spelled, ← value, le-leb n max le) refl

-- nothing is read at a digit that makes the number too large
pub number_past : (max : ℕ) (word : List ℕ) (i n : ℕ) → is_decimal word ≡ true → value_from n (drop i word) ≡ value_from 0 word
    → i < length word → max < 10 * n + (get_or word i 0 - 48) → None ≡ number_of max word
number_past max word i n spelled value lt more =
    let next = 10 * n + (get_or word i 0 - 48) in
    let rest : drop i word ≡ get_or word i 0 ∷ drop (suc i) word = drop-cons word i 0 lt in
    let le : next ≤ value_from n (drop i word) = rw rest (le-value_from next (drop (suc i) word)) in
    number_none max word next spelled (omega (arith, value)) more

-- the kit's lemmas on decimal texts hold of this value of digits
digits_model : IsNumeralModel (λ digits. all_ascii_digits digits ≡ true) (value_from 0)
digits_model = numerals_by_fold _ tells_all_ascii_digits value_from (search rules)

-- only the decimal text of 0 begins with a zero
first_digit : (n : ℕ) → n < 2 ^ 64 → (not (get_or (decimal n) 0 0 == 48) || (length (decimal n) == 1)) ≡ true
first_digit n small =
    elim (cases_eq n 0) [
      | inl none ↦ rw (none, decimal_digit 0 (omega arith)) refl
      | inr some ↦
          let more : 48 < get_or (decimal n) 0 0 = first_decimal n (omega arith) small in
          rw (ne_eqb (get_or (decimal n) 0 0) 48 (λ e. omega (arith, e))) refl
    ]

-- a decimal text is one
is_decimal-decimal : (n : ℕ) → n < 2 ^ 64 → is_decimal (decimal n) ≡ true
is_decimal-decimal n small =
    rw (lt-ltb 0 (length (decimal n)) (decimal_nonempty n small), digits_decimal digits_model n small, first_digit n small) refl

-- a decimal text is read as its number
pub number_of-decimal : (max n : ℕ) → n ≤ max → n < 2 ^ 64 → number_of max (decimal n) ≡ Some n
number_of-decimal max n le small =
    sym (number_some max (decimal n) n (is_decimal-decimal n small) (sym (digits_value-decimal digits_model n small)) le)

-- a word that may begin with a zero only if it is one digit has one digit if it does
one_digit : (word : List ℕ) → (not (get_or word 0 0 == 48) || (length word == 1)) ≡ true → get_or word 0 0 ≡ 48 → length word ≡ 1
one_digit word h first = eqb-true (length word) 1 (rw (eq-eqb (get_or word 0 0) 48 first) at h)

-- what is read is the decimal text of its number
pub decimal-number_of : (max : ℕ) (word : List ℕ) (n : ℕ) → max < 2 ^ 64 → number_of max word ≡ Some n
    → (word ≡ decimal n) × (n ≤ max)
unfolding number_of
decimal-number_of max word n bound e =
    let no_zero = not (get_or word 0 0 == 48) || (length word == 1) in
    let (test, same) = cond_some (is_decimal word && nat_le (value_from 0 word) max) (value_from 0 word) n e in
    let (spelled, within) = and_parts (is_decimal word) (nat_le (value_from 0 word) max) test in
    let (some, rest) = and_parts (nat_lt 0 (length word)) (all_ascii_digits word && no_zero) spelled in
    let (digits, first) = and_parts (all_ascii_digits word) no_zero rest in
    let most : value_from 0 word ≤ max = leb-true (value_from 0 word) max within in
    let small : value_from 0 word < 2 ^ 64 = omega arith in
    let le : n ≤ max = omega (arith, same) in
    let written = decimal-digits_value digits_model word digits (ltb-true 0 (length word) some) (one_digit word first) small in
    (sym written ∙ ap decimal same, le)
