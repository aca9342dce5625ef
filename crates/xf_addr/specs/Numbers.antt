-- Decimal numbers, and texts cut at a byte.
use Rattle.std.specs.Prelude.{ℕ, ◌+◌, ◌-◌, ◌*◌, Bool, ◌==◌, ◌&&◌, ◌||◌, not, nat_le, nat_lt, if◌then◌else◌, List, [], ◌∷◌, ◌++◌, length, slice_index, Option, None, Some}
use Rattle.std.specs.Str.{all_ascii_digits}

-- the number so far, and more digits
abbrev pub value_from : ℕ → List ℕ → ℕ
value_from n [] = n
value_from n (c ∷ cs) = value_from (10 * n + (c - 48)) cs

-- digits, of which the first isn't 0 unless it is the only one
abbrev pub is_decimal : List ℕ → Bool
is_decimal word =
    nat_lt 0 (length word) && (all_ascii_digits word && (not (slice_index word 0 == 48) || (length word == 1)))

-- the number that a word spells, up to a greatest one
unfoldable pub number_of : ℕ → List ℕ → Option ℕ
number_of max word = if is_decimal word && nat_le (value_from 0 word) max then Some (value_from 0 word) else None

-- what stands before a byte and what after it, behind a front that lacks it
abbrev pub cut_from : List ℕ → ℕ → List ℕ → Option (List ℕ × List ℕ)
cut_from front byte [] = None
cut_from front byte (c ∷ cs) = if c == byte then Some (front, cs) else cut_from (front ++ c ∷ []) byte cs

-- what stands before the first such byte, and what after it
abbrev pub cut_at : ℕ → List ℕ → Option (List ℕ × List ℕ)
cut_at byte text = cut_from [] byte text
