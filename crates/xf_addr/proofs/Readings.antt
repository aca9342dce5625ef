-- The function that reads is the grammar.
use Rattle.std.proofs.Common.{◌≡◌, ℕ, List, [], ◌∷◌, length, Option, Some, None, option_map, refl, sym, ap, ◌∙◌, subst, inl, inr, arith, lit≤, append-nil, eqb-true}
use Rattle.std.proofs.lemmas.Option.{none-some, same_Some}
use Rattle.std.specs.Net.Grammar.{IsDotted, IsColonHex, IsIpText}
use Rattle.std.specs.Net.Reader.{Read, read_ipv4, read_ipv6, whole_value}
use Rattle.std.specs.declared.net.ip_addr.IpAddr.{IpAddr}
use Rattle.std.specs.declared.net.ip_addr.IpAddr.TheVariants as Ip
use Rattle.std.proofs.NetLemmas.Options.{cond_some, and_then_some}
use Rattle.std.proofs.NetLemmas.Ipv4.{read_ipv4_complete, read_ipv4_sound}
use Rattle.std.proofs.NetLemmas.Ipv6.{read_ipv6_complete, read_ipv6_sound, EndsGroups-nil, IsDotted-not_colon_hex}
use Rattle.xf_types.specs.declared.network.Addr.{Addr}
use Rattle.xf_types.specs.declared.network.Addr.TheVariants.{V4, V6}
use Rattle.xf_addr.specs.Spelling.{number_from, Spells, addr_of_octets, addr_of_groups}
use Rattle.xf_addr.specs.Reading.{addr_of, or_else}

-- a list without items
no_items : (xs : List ℕ) → length xs ≡ 0 → xs ≡ []
no_items [] e = refl
no_items (x ∷ xs) e = absurd (omega (arith, e))

-- what is read whole leaves nothing
whole_some : (r : Read (List ℕ)) (x : List ℕ) → whole_value r ≡ Some x → r ≡ Some (x, [])
whole_some r x e = and_then_some _ r x e λ p read kept.
    let (test, same) = cond_some _ p.0 x kept in
    let left = no_items p.1 (eqb-true _ _ test) in
    read ∙ ap (λ (q : List ℕ × List ℕ). Some q) (λ i. (same i, left i))

-- an IPv4 text is read as its octets
whole_v4 : (text octets : List ℕ) → IsDotted text octets → whole_value (read_ipv4 text) ≡ Some octets
whole_v4 text octets h =
    let read : read_ipv4 text ≡ Some (octets, []) = rw append-nil at (read_ipv4_complete text octets [] h (lit≤ tt)) in
    rw read refl

-- an IPv6 text is read as its groups
whole_v6 : (text groups : List ℕ) → IsColonHex text groups → whole_value (read_ipv6 text) ≡ Some groups
whole_v6 text groups h =
    let read : read_ipv6 text ≡ Some (groups, []) = rw append-nil at (read_ipv6_complete text groups [] h EndsGroups-nil) in
    rw read refl

-- octets that are read are spelled so
dotted_of : (text octets : List ℕ) → whole_value (read_ipv4 text) ≡ Some octets → IsDotted text octets
dotted_of text octets e =
    let (front, split, h) = read_ipv4_sound text octets [] (whole_some _ _ e) in
    subst (λ t. IsDotted t octets) (sym (split ∙ append-nil front)) h

-- groups that are read are spelled so
colon_hex_of : (text groups : List ℕ) → whole_value (read_ipv6 text) ≡ Some groups → IsColonHex text groups
colon_hex_of text groups e =
    let (front, split, h) = read_ipv6_sound text groups [] (whole_some _ _ e) in
    subst (λ t. IsColonHex t groups) (sym (split ∙ append-nil front)) h

-- an IPv6 text isn't read as octets
none_v4 : (text groups : List ℕ) → IsColonHex text groups → whole_value (read_ipv4 text) ≡ None
none_v4 text groups h = go (whole_value (read_ipv4 text)) refl
  where
    go : (o : Option (List ℕ)) → whole_value (read_ipv4 text) ≡ o → whole_value (read_ipv4 text) ≡ None
    go None e = e
    go (Some octets) e = absurd (IsDotted-not_colon_hex text octets groups (dotted_of text octets e) h)

-- a spelling is read as the address that it spells
pub addr_of-spelled : (text : List ℕ) (a : Addr) → Spells text a → addr_of text ≡ Some a
unfolding addr_of
addr_of-spelled text a (inl (octets, h, is)) = rw (whole_v4 text octets h, is) refl
addr_of-spelled text a (inr (groups, h, is)) = rw (none_v4 text groups h, whole_v6 text groups h, is) refl

-- what is read is spelled so
pub spelled-addr_of : (text : List ℕ) (a : Addr) → addr_of text ≡ Some a → Spells text a
unfolding addr_of
spelled-addr_of text a e = go (whole_value (read_ipv4 text)) refl (whole_value (read_ipv6 text)) refl e
  where
    go : (four : Option (List ℕ)) → whole_value (read_ipv4 text) ≡ four
        → (six : Option (List ℕ)) → whole_value (read_ipv6 text) ≡ six
        → or_else (option_map addr_of_octets four) (option_map addr_of_groups six) ≡ Some a → Spells text a
    go (Some octets) is_four six is_six h = inl (octets, dotted_of text octets is_four, sym (same_Some _ _ h))
    go None is_four (Some groups) is_six h = inr (groups, colon_hex_of text groups is_six, sym (same_Some _ _ h))
    go None is_four None is_six h = absurd (none-some _ h)

-- a text that spells no address is read as none
pub addr_of-none : (text : List ℕ) → ((a : Addr) → ¬ (Spells text a)) → addr_of text ≡ None
addr_of-none text none = go (addr_of text) refl
  where
    go : (o : Option Addr) → addr_of text ≡ o → addr_of text ≡ None
    go None e = e
    go (Some a) e = absurd (none a (spelled-addr_of text a e))

-- a text has one address
pub spells_one : (text : List ℕ) (a b : Addr) → Spells text a → Spells text b → a ≡ b
spells_one text a b h k = same_Some _ _ (sym (addr_of-spelled text a h) ∙ addr_of-spelled text b k)

-- what the library's grammar refuses spells no address
pub no_spelling : (text : List ℕ) → ((ip : IpAddr) → ¬ (IsIpText text ip)) → (a : Addr) → ¬ (Spells text a)
no_spelling text none a (inl (octets, h, is)) = none (Ip.V4 (record { octets = octets })) h
no_spelling text none a (inr (groups, h, is)) = none (Ip.V6 (record { segments = groups })) h

-- where octets were read and joined, the text's address is known
pub read_v4 : (text octets : List ℕ) (n : ℕ) → IsDotted text octets → n ≡ number_from 256 0 octets
    → Some (V4 n) ≡ addr_of text
read_v4 text octets n h e = sym (addr_of-spelled text (V4 n) (inl (octets, h, ap V4 e)))

-- where groups were read and joined, the text's address is known
pub read_v6 : (text groups : List ℕ) (n : ℕ) → IsColonHex text groups → n ≡ number_from 65536 0 groups
    → Some (V6 n) ≡ addr_of text
read_v6 text groups n h e = sym (addr_of-spelled text (V6 n) (inr (groups, h, ap V6 e)))
