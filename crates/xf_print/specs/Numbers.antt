-- Numbers, and parts of a text that stand only where something is given.
use Rattle.std.specs.Prelude.{ℕ, ◌+◌, ◌/◌, ◌%◌, ◌^◌, Bool, nat_lt, if◌then◌else◌, List, [], ◌∷◌, ◌++◌, codes, decimal, Option, Some, None}

-- a hexadecimal digit in lower case
abbrev pub hex_digit : ℕ → ℕ
hex_digit d = if nat_lt d 10 then 48 + d else 87 + d

-- the eight hexadecimal digits of a number of 32 bits, the highest first
abbrev pub eight_digits : ℕ → List ℕ
eight_digits n =
    hex_digit (n / 2 ^ 28 % 16) ∷ hex_digit (n / 2 ^ 24 % 16) ∷ hex_digit (n / 2 ^ 20 % 16) ∷ hex_digit (n / 2 ^ 16 % 16)
    ∷ hex_digit (n / 2 ^ 12 % 16) ∷ hex_digit (n / 2 ^ 8 % 16) ∷ hex_digit (n / 2 ^ 4 % 16) ∷ hex_digit (n % 16) ∷ []

-- an SPI, a mark or a mask
unfoldable pub hex_text : ℕ → List ℕ
hex_text n = codes "0x" ++ eight_digits n

-- a word that stands where a flag is set
unfoldable pub flag_text : List ℕ → Bool → List ℕ
flag_text word set = if set then word else []

-- a word and its number, where one is given
unfoldable pub given_text : List ℕ → Option ℕ → List ℕ
given_text word None = []
given_text word (Some n) = word ++ decimal n
