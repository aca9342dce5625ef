-- The written form of an address spells it.
use Rattle.std.proofs.Common.{◌≡◌, ℕ, zero, suc, ◌+◌, ◌*◌, ◌/◌, ◌%◌, ◌^◌, ◌<◌, get_or, List, Some, refl, ap, ◌∙◌, inl, inr, arith}
use Rattle.std.specs.Net.Text.{dotted_text}
use Rattle.std.proofs.NetLemmas.Texts.{IsDotted-ipv4_text, IsColonHex-hex_groups_text}
use Rattle.xf_types.specs.declared.network.Addr.{Addr}
use Rattle.xf_types.specs.declared.network.Addr.TheVariants.{V4, V6}
use Rattle.xf_addr.specs.Spelling.{number_from, Spells}
use Rattle.xf_addr.specs.Reading.{addr_of}
use Rattle.xf_addr.specs.Text.{octets_of, groups_of, addr_text, FitsAddr}
use Rattle.xf_addr.proofs.Readings.{addr_of-spelled}

-- an octet has 8 bits
octets_fit : (n k : ℕ) → get_or (octets_of n) k 0 < 2 ^ 8
octets_fit n zero = omega arith
octets_fit n (suc zero) = omega arith
octets_fit n (suc (suc zero)) = omega arith
octets_fit n (suc (suc (suc zero))) = omega arith
octets_fit n (suc (suc (suc (suc k)))) = omega arith

-- a group has 16 bits
groups_fit : (n k : ℕ) → get_or (groups_of n) k 0 < 2 ^ 16
groups_fit n zero = omega arith
groups_fit n (suc zero) = omega arith
groups_fit n (suc (suc zero)) = omega arith
groups_fit n (suc (suc (suc zero))) = omega arith
groups_fit n (suc (suc (suc (suc zero)))) = omega arith
groups_fit n (suc (suc (suc (suc (suc zero))))) = omega arith
groups_fit n (suc (suc (suc (suc (suc (suc zero)))))) = omega arith
groups_fit n (suc (suc (suc (suc (suc (suc (suc zero))))))) = omega arith
groups_fit n (suc (suc (suc (suc (suc (suc (suc (suc k)))))))) = omega arith

-- the octets of a number make it
joined_octets : (n : ℕ) → n < 2 ^ 32 → n ≡ number_from 256 0 (octets_of n)
joined_octets n fits = omega arith

-- the groups of a number make it
joined_groups : (n : ℕ) → n < 2 ^ 128 → n ≡ number_from 65536 0 (groups_of n)
joined_groups n fits =
    let at_112 : n / 2 ^ 112 % 65536 ≡ n / 2 ^ 112 = omega arith in
    let at_96 : n / 2 ^ 96 ≡ n / 2 ^ 112 * 65536 + n / 2 ^ 96 % 65536 = omega arith in
    let at_80 : n / 2 ^ 80 ≡ n / 2 ^ 96 * 65536 + n / 2 ^ 80 % 65536 = omega arith in
    let at_64 : n / 2 ^ 64 ≡ n / 2 ^ 80 * 65536 + n / 2 ^ 64 % 65536 = omega arith in
    let at_48 : n / 2 ^ 48 ≡ n / 2 ^ 64 * 65536 + n / 2 ^ 48 % 65536 = omega arith in
    let at_32 : n / 2 ^ 32 ≡ n / 2 ^ 48 * 65536 + n / 2 ^ 32 % 65536 = omega arith in
    let at_16 : n / 2 ^ 16 ≡ n / 2 ^ 32 * 65536 + n / 2 ^ 16 % 65536 = omega arith in
    let at_0 : n ≡ n / 2 ^ 16 * 65536 + n % 65536 = omega arith in
    omega arith

-- what is written spells the address
pub spells-addr_text : (a : Addr) → FitsAddr a → Spells (addr_text a) a
spells-addr_text (V4 n) fits =
    inl (octets_of n, IsDotted-ipv4_text (octets_of n) refl (octets_fit n), ap V4 (joined_octets n fits))
spells-addr_text (V6 n) fits =
    inr (groups_of n, IsColonHex-hex_groups_text (groups_of n) refl (groups_fit n), ap V6 (joined_groups n fits))

-- what is written is read as the same address
pub addr_is_read : (a : Addr) → FitsAddr a → addr_of (addr_text a) ≡ Some a
addr_is_read a fits = addr_of-spelled _ a (spells-addr_text a fits)

-- an IPv4 address has one spelling
pub one_spelling : (text : List ℕ) (n : ℕ) → Spells text (V4 n) → text ≡ addr_text (V4 n)
one_spelling text n (inl (octets, h, is)) =
    let same : n ≡ number_from 256 0 octets = cc in
    let value : n ≡ ((h.a * 256 + h.b) * 256 + h.c) * 256 + h.d = omega (arith, same ∙ ap (number_from 256 0) h.value) in
    let at_a : h.a ≡ n / 2 ^ 24 % 256 = omega (arith, h.fit) in
    let at_b : h.b ≡ n / 2 ^ 16 % 256 = omega (arith, h.fit) in
    let at_c : h.c ≡ n / 2 ^ 8 % 256 = omega (arith, h.fit) in
    let at_d : h.d ≡ n % 256 = omega (arith, h.fit) in
    h.spelled ∙ (λ i. dotted_text (at_a i) (at_b i) (at_c i) (at_d i))
one_spelling text n (inr (groups, h, is)) = absurd cc
