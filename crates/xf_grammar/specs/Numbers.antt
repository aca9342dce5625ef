-- Numbers as lines spell them.
use Rattle.std.specs.Prelude.{ℕ, ◌+◌, ◌-◌, ◌*◌, Bool, true, ◌==◌, ◌&&◌, nat_lt, nat_le, if◌then◌else◌, [], ◌∷◌, length, drop, slice_index, Option, None, Some, Result, Ok, Err}
use Rattle.std.specs.Char.{is_ascii_hexdigit}
use Rattle.xf_types.specs.declared.status.Reason.{Reason}
use Rattle.xf_types.specs.declared.status.Reason.TheVariants.{Number, Range}
use Rattle.xf_addr.specs.Numbers.{is_decimal, value_from}
use Rattle.xf_lex.specs.Lexing.{Word}

-- the value of a hexadecimal digit of either case
abbrev pub hex_digit : ℕ → ℕ
hex_digit c = if nat_le c 57 then c - 48 else (if nat_le c 70 then c - 55 else c - 87)

-- the number so far, and more hexadecimal digits
abbrev pub hex_from : ℕ → Word → ℕ
hex_from n [] = n
hex_from n (c ∷ cs) = hex_from (16 * n + hex_digit c) cs

-- each byte is a hexadecimal digit
abbrev pub are_hex_digits : Word → Bool
are_hex_digits [] = true
are_hex_digits (c ∷ cs) = is_ascii_hexdigit c && are_hex_digits cs

-- 0x and 1 to 16 hexadecimal digits
abbrev pub is_hex : Word → Bool
is_hex w =
    nat_lt 2 (length w)
    && (nat_le (length w) 18
    && ((slice_index w 0 == 48) && ((slice_index w 1 == 120) && are_hex_digits (drop 2 w))))

-- the number that a word spells, of any size
unfoldable pub spelled : Word → Option ℕ
spelled w =
    if is_decimal w then Some (value_from 0 w) else (if is_hex w then Some (hex_from 0 (drop 2 w)) else None)

-- a number lies in its range
abbrev pub within : ℕ → ℕ → Option ℕ → Result ℕ Reason
within low high None = Err Number
within low high (Some n) = if nat_le low n && nat_le n high then Ok n else Err Range

-- the number that a word spells, in its range
abbrev pub number_in : ℕ → ℕ → Word → Result ℕ Reason
number_in low high w = within low high (spelled w)
