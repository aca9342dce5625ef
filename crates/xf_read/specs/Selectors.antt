-- From the fields of a group to selectors: ports and types, families, and what each protocol may have.
use Rattle.std.specs.Prelude.{◌≡◌, refl, ℕ, Bool, ◌==◌, ◌&&◌, ◌||◌, not, if◌then◌else◌, List, Option, None, Some, unwrap_or, Result, Ok, Err}
use Rattle.xf_types.specs.declared.network.Addr.{Addr}
use Rattle.xf_types.specs.declared.network.Addr.TheVariants.{V4, V6}
use Rattle.xf_types.specs.declared.network.Prefix.{Prefix}
use Rattle.xf_types.specs.declared.network.Selector.{Selector}
use Rattle.xf_types.specs.declared.status.Reason.{Reason}
use Rattle.xf_types.specs.declared.status.Reason.TheVariants.{Mixed, Family, Ports}
use Rattle.xf_types.specs.Address.{family_of}
use Rattle.xf_types.specs.Prefixes.{prefix_at}
use Rattle.xf_grammar.specs.declared.row.Field.{Field}
use Rattle.xf_grammar.specs.declared.row.Slot.TheVariants as slot
use Rattle.xf_grammar.specs.declared.row.Value.{Value}
use Rattle.xf_grammar.specs.Grammar.{◌>>=◌}
use Rattle.xf_grammar.specs.Lookups.{has_in_group, u8_in_group, u16_in_group, prefix_in_group, as_prefix}

-- ---- ports, and ICMP types and codes in their places

-- a field that two words give is given twice
abbrev pub one_of : Option ℕ → Option ℕ → Result (Option ℕ) Reason
one_of None other = Ok other
one_of (Some a) None = Ok (Some a)
one_of (Some a) (Some b) = Err Mixed

-- the source port, or the ICMP type
abbrev pub source_port : ℕ → List Field → Result (Option ℕ) Reason
source_port group fs = one_of (u16_in_group group slot.SourcePort fs) (u16_in_group group slot.IcmpType fs)

-- the destination port, or the ICMP code
abbrev pub dest_port : ℕ → List Field → Result (Option ℕ) Reason
dest_port group fs = one_of (u16_in_group group slot.DestPort fs) (u16_in_group group slot.IcmpCode fs)

-- TCP, UDP, DCCP and SCTP have ports
abbrev pub carries_ports : ℕ → Bool
carries_ports proto = (proto == 6) || ((proto == 17) || ((proto == 33) || (proto == 132)))

-- ICMP, ICMPv6 and the mobility header have types
abbrev pub carries_types : ℕ → Bool
carries_types proto = (proto == 1) || ((proto == 58) || (proto == 135))

-- the protocol, 0 where it isn't given
abbrev pub proto_of : ℕ → List Field → ℕ
proto_of group fs = unwrap_or (u8_in_group group slot.Proto fs) 0

-- a port is given
abbrev pub has_port : ℕ → List Field → Bool
has_port group fs = has_in_group group slot.SourcePort fs || has_in_group group slot.DestPort fs

-- an ICMP type or code is given
abbrev pub has_type : ℕ → List Field → Bool
has_type group fs = has_in_group group slot.IcmpType fs || has_in_group group slot.IcmpCode fs

-- what is given fits the protocol
abbrev pub judged_ports : ℕ → List Field → Result (Unit {0}) Reason
judged_ports group fs =
    if (has_port group fs && not (carries_ports (proto_of group fs))) || (has_type group fs && not (carries_types (proto_of group fs)))
    then Err Ports else Ok tt

-- ---- families

-- the zero address of the same family
abbrev pub zero_of : Addr → Addr
zero_of (V4 number) = V4 0
zero_of (V6 number) = V6 0

-- the zero address of the prefix's family, IPv4 where there is none
abbrev pub zero_like : Option Prefix → Addr
zero_like None = V4 0
zero_like (Some p) = zero_of p.addr

-- a prefix without a family of its own has length 0 and the family of the other
abbrev pub end_or : Option Prefix → Option Prefix → Prefix
end_or None other = prefix_at (zero_like other) 0
end_or (Some p) other = p

-- two addresses have one family
abbrev pub one_family : (a b : Addr) → Result (family_of a ≡ family_of b) Reason
one_family (V4 a) (V4 b) = Ok refl
one_family (V6 a) (V6 b) = Ok refl
one_family (V4 a) (V6 b) = Err Family
one_family (V6 a) (V4 b) = Err Family

-- the same, where nothing is to be known of it
abbrev pub judged_family : Addr → Addr → Result (Unit {0}) Reason
judged_family a b = if family_of a == family_of b then Ok tt else Err Family

-- two addresses that may be left out have one family
abbrev pub judged_ends : Option Addr → Option Addr → Result (Unit {0}) Reason
judged_ends None other = Ok tt
judged_ends (Some a) None = Ok tt
judged_ends (Some a) (Some b) = judged_family a b

-- a source that is left out is the zero address of the destination's family
abbrev pub source_or_zero : Option Addr → Addr → Addr
source_or_zero src dst = unwrap_or src (zero_of dst)

-- two prefixes that may be left out have one family
abbrev pub judged_families : Option Prefix → Option Prefix → Result (Unit {0}) Reason
judged_families None other = Ok tt
judged_families (Some a) None = Ok tt
judged_families (Some a) (Some b) = judged_family a.addr b.addr

-- ---- selectors

-- a selector whose prefixes have one family
unfoldable pub selector_between : Prefix → Prefix → ℕ → Option ℕ → Option ℕ → Result Selector Reason
selector_between src dst proto sport dport =
    one_family src.addr dst.addr >>= λ one. Ok (record {
      src = src;
      dst = dst;
      proto = proto;
      sport = sport;
      dport = dport;
      facts = record { one_family = one };
    })

-- the source prefix
abbrev pub src_of : ℕ → List Field → Prefix
src_of group fs = end_or (prefix_in_group group slot.Src fs) (prefix_in_group group slot.Dst fs)

-- the destination prefix
abbrev pub dst_of : ℕ → List Field → Prefix
dst_of group fs = end_or (prefix_in_group group slot.Dst fs) (prefix_in_group group slot.Src fs)

-- the selector of a group, once its ports are known
unfoldable pub selector_with : ℕ → Option ℕ → Option ℕ → List Field → Result Selector Reason
selector_with group sport dport fs = do
  sel ← selector_between (src_of group fs) (dst_of group fs) (proto_of group fs) sport dport
  _ ← judged_ports group fs
  Ok sel

-- the selector of a group
unfoldable pub selector_of : ℕ → List Field → Result Selector Reason
selector_of group fs = do
  sport ← source_port group fs
  dport ← dest_port group fs
  selector_with group sport dport fs

-- a prefix that is a condition where it is given
abbrev pub given_end : Option Value → Option Prefix → Option Prefix
given_end None other = None
given_end (Some v) other = Some (end_or (as_prefix (Some v)) other)
