-- The hash of words.
use Rattle.std.specs.Prelude.{ℕ, ◌*◌, ◌/◌, ◌%◌, ◌^◌, bit_xor, List, [], ◌∷◌}

-- a number of 64 bits whose high half is mixed into its low half
abbrev pub mixed : ℕ → ℕ
mixed h = bit_xor h (h / 2 ^ 32)

-- the hash after one word more
abbrev pub hash_next : ℕ → ℕ → ℕ
hash_next h word = mixed (bit_xor h word * 0xFF51AFD7ED558CCD % 2 ^ 64)

-- the hash of words, begun at a number
abbrev pub hash_from : ℕ → List ℕ → ℕ
hash_from h [] = h
hash_from h (word ∷ words) = hash_from (hash_next h word) words
