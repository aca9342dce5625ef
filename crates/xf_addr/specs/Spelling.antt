-- Which texts spell which address (RFC 4291, 2.2). No text with a zone does.
use Rattle.std.specs.Prelude.{◌≡◌, ℕ, ◌+◌, ◌*◌, ◌⊎◌, List, [], ◌∷◌}
use Rattle.std.specs.Net.Grammar.{IsDotted, IsColonHex}
use Rattle.xf_types.specs.declared.network.Addr.{Addr}
use Rattle.xf_types.specs.declared.network.Addr.TheVariants.{V4, V6}

-- the number so far, and more digits in the base, the highest first
abbrev pub number_from : ℕ → ℕ → List ℕ → ℕ
number_from base n [] = n
number_from base n (d ∷ ds) = number_from base (n * base + d) ds

-- the address of four octets
abbrev pub addr_of_octets : List ℕ → Addr
addr_of_octets octets = V4 (number_from 256 0 octets)

-- the address of eight groups of 16 bits
abbrev pub addr_of_groups : List ℕ → Addr
addr_of_groups groups = V6 (number_from 65536 0 groups)

-- four decimal numbers below 256 with points between them and no leading zeros
abbrev pub SpellsV4 : List ℕ → Addr → Type 0
SpellsV4 text a = (octets : List ℕ) × IsDotted text octets × (a ≡ addr_of_octets octets)

-- Eight groups of one to four hexadecimal digits of either case with colons between them, where `::` may stand
-- once for one zero group or more, and the last two groups may be written as an IPv4 address.
abbrev pub SpellsV6 : List ℕ → Addr → Type 0
SpellsV6 text a = (groups : List ℕ) × IsColonHex text groups × (a ≡ addr_of_groups groups)

-- the text spells the address
abbrev pub Spells : List ℕ → Addr → Type 0
Spells text a = SpellsV4 text a ⊎ SpellsV6 text a
