-- The written form of an address (RFC 5952, 4).
use Rattle.std.specs.Prelude.{ℕ, ◌/◌, ◌%◌, ◌^◌, ◌<◌, List, [], ◌∷◌}
use Rattle.std.specs.Net.Text.{ipv4_text, hex_groups_text}
use Rattle.xf_types.specs.declared.network.Addr.{Addr}
use Rattle.xf_types.specs.declared.network.Addr.TheVariants.{V4, V6}

-- the four octets of a number of 32 bits, the highest first
abbrev pub octets_of : ℕ → List ℕ
octets_of n = n / 2 ^ 24 % 256 ∷ n / 2 ^ 16 % 256 ∷ n / 2 ^ 8 % 256 ∷ n % 256 ∷ []

-- the eight groups of a number of 128 bits, the highest first
abbrev pub groups_of : ℕ → List ℕ
groups_of n =
    n / 2 ^ 112 % 65536 ∷ n / 2 ^ 96 % 65536 ∷ n / 2 ^ 80 % 65536 ∷ n / 2 ^ 64 % 65536 ∷ n / 2 ^ 48 % 65536
    ∷ n / 2 ^ 32 % 65536 ∷ n / 2 ^ 16 % 65536 ∷ n % 65536 ∷ []

-- Four decimal numbers with points; or eight groups, never with an IPv4 address at their end. `written_laws` says
-- which rules the groups keep.
abbrev pub addr_text : Addr → List ℕ
addr_text (V4 n) = ipv4_text (octets_of n)
addr_text (V6 n) = hex_groups_text (groups_of n)

-- a number of 32 bits, or of 128
abbrev pub FitsAddr : Addr → Type 0
FitsAddr (V4 n) = n < 2 ^ 32
FitsAddr (V6 n) = n < 2 ^ 128
