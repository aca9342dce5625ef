-- Which addresses a prefix holds and which flows a selector matches: each as a test and as a fact.
use Rattle.std.specs.Prelude.{◌≡◌, ℕ, Bool, true, ◌&&◌, ◌||◌, ◌⊎◌, ◌==◌, Option, None, Some, IfSome}
use Rattle.xf_types.specs.declared.network.Addr.{Addr}
use Rattle.xf_types.specs.declared.network.Prefix.{Prefix}
use Rattle.xf_types.specs.declared.network.Selector.{Selector}
use Rattle.xf_types.specs.declared.network.Flow.{Flow}
use Rattle.xf_types.specs.Address.{family_of, first_bits}

-- an address is in a prefix where the families are equal and the first bits, as many as the prefix has, agree (RFC 4291, 2.3)
pub record IsInPrefix (addr : Addr) (prefix : Prefix) : Type 0 where
  pub family : family_of prefix.addr ≡ family_of addr
  pub bits : first_bits prefix.addr prefix.len ≡ first_bits addr prefix.len

-- the test of this
abbrev pub in_prefix : Addr → Prefix → Bool
in_prefix addr prefix =
    (family_of prefix.addr == family_of addr)
    && (first_bits prefix.addr prefix.len == first_bits addr prefix.len)

-- a selector matches a flow by both addresses, the protocol and the ports (RFC 4301, 4.4.1.1). Protocol 0 matches each
-- protocol, a port that is given is matched whole, and ICMP type and code stand in the places of the ports
pub record Matches (sel : Selector) (flow : Flow) : Type 0 where
  pub src : IsInPrefix flow.src sel.src
  pub dst : IsInPrefix flow.dst sel.dst
  pub proto : (sel.proto ≡ 0) ⊎ (sel.proto ≡ flow.proto)
  pub sport : IfSome sel.sport (λ port. port ≡ flow.sport)
  pub dport : IfSome sel.dport (λ port. port ≡ flow.dport)

-- a port that is given is equal
abbrev pub matches_port : Option ℕ → ℕ → Bool
matches_port None port = true
matches_port (Some wanted) port = wanted == port

-- the test of a match
abbrev pub matches : Selector → Flow → Bool
matches sel flow =
    in_prefix flow.src sel.src
    && in_prefix flow.dst sel.dst
    && ((sel.proto == 0) || (sel.proto == flow.proto))
    && matches_port sel.sport flow.sport
    && matches_port sel.dport flow.dport
