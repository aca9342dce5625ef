-- Keys: 128 bits, the first bit the greatest; an IPv4 address is the first 32 of them.
use Rattle.std.specs.Prelude.{ℕ, zero, suc, ◌-◌, ◌*◌, ◌/◌, ◌%◌, ◌^◌, Bool, if◌then◌else◌, ◌==◌}
use Rattle.xf_types.specs.declared.network.Addr.{Addr}
use Rattle.xf_types.specs.declared.network.Addr.TheVariants.{V4, V6}

-- the address with its bits in front
abbrev pub key_of : Addr → ℕ
key_of (V4 number) = number * 2 ^ 96
key_of (V6 number) = number

-- the first bits of a key, n of them
abbrev pub first_of : ℕ → ℕ → ℕ
first_of key n = key / 2 ^ (128 - n)

-- whether two keys agree in their first n bits
unfoldable pub agrees : ℕ → ℕ → ℕ → Bool
agrees a b n = first_of a n == first_of b n

-- the bit after the first n
unfoldable pub bit : ℕ → ℕ → Bool
bit key n = key / 2 ^ (127 - n) % 2 == 1

-- in how many first bits two keys agree, at most n
abbrev pub common : ℕ → ℕ → ℕ → ℕ
common a b zero = 0
common a b (suc n) = if agrees a b (suc n) then suc n else common a b n
