-- The numbers that the values of options spell.
use Rattle.std.specs.Prelude.{ℕ, ◌+◌, ◌-◌, ◌*◌, Bool, ◌&&◌, nat_le, if◌then◌else◌, List, [], ◌∷◌, length, Option, None, Some}
use Rattle.std.specs.Str.{all_ascii_digits}

-- a word is its bytes
abbrev pub Word : Type 0
Word = List ℕ

-- the number so far, and more digits
abbrev pub value_from : ℕ → Word → ℕ
value_from n [] = n
value_from n (c ∷ cs) = value_from (10 * n + (c - 48)) cs

-- 1 to 20 digits, of which the first may be zeros
abbrev pub is_decimal : Word → Bool
is_decimal word = nat_le 1 (length word) && (nat_le (length word) 20 && all_ascii_digits word)

-- the number that a word spells, if it lies between two bounds
unfoldable pub number_in : ℕ → ℕ → Word → Option ℕ
number_in low high word =
    if is_decimal word && (nat_le low (value_from 0 word) && nat_le (value_from 0 word) high) then Some (value_from 0 word)
    else None
