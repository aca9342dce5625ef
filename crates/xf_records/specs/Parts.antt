-- The words of the parts that policies and states have in common: selectors, limits and templates.
use Rattle.std.specs.Prelude.{◌≡◌, refl, ℕ, ◌+◌, ◌^◌, ◌<◌, ◌==◌, min, Bool, true, false, List, [], ◌∷◌, slice_index}
use Rattle.xf_types.specs.declared.network.Prefix.{Prefix}
use Rattle.xf_types.specs.declared.network.Selector.{Selector}
use Rattle.xf_types.specs.declared.policy.Limits.{Limits}
use Rattle.xf_types.specs.declared.policy.Template.{Template}
use Rattle.xf_types.specs.Address.{family_of, width_of, cut}
use Rattle.xf_types.specs.Prefixes.{prefix_at}
use Rattle.xf_types.specs.Same.{proto_number, mode_number}
use Rattle.xf_records.specs.Codes.{small_in, byte_in, proto_in, mode_in, level_word, level_in, port_word, port_in, PortFits, given_word, number_word, limit_in, high_word, low_word, addr_by, addr_in, AddrFits}

-- the prefix that the words of an address and of a length give
abbrev pub prefix_in : ℕ → ℕ → ℕ → ℕ → Prefix
prefix_in family high low len = prefix_at (addr_in family high low) (min len (width_of (addr_in family high low)))

-- a selector's words: one family for both prefixes, source, destination, protocol and ports
abbrev pub selector_words : Selector → List ℕ
selector_words sel =
    family_of sel.src.addr
    ∷ high_word sel.src.addr ∷ low_word sel.src.addr ∷ sel.src.len
    ∷ high_word sel.dst.addr ∷ low_word sel.dst.addr ∷ sel.dst.len
    ∷ sel.proto ∷ port_word sel.sport ∷ port_word sel.dport ∷ []

-- two prefixes that are read with one word for the family have one family
pub one_family_by : (b : Bool) (high low len other_high other_low other_len : ℕ)
    → family_of (cut (addr_by b high low) len) ≡ family_of (cut (addr_by b other_high other_low) other_len)
one_family_by true high low len other_high other_low other_len = refl
one_family_by false high low len other_high other_low other_len = refl

-- the selector that words give, from a place on
abbrev pub selector_of : List ℕ → ℕ → Selector
selector_of words at =
    let family = slice_index words at in
    record {
      src = prefix_in family (slice_index words (at + 1)) (slice_index words (at + 2)) (slice_index words (at + 3));
      dst = prefix_in family (slice_index words (at + 4)) (slice_index words (at + 5)) (slice_index words (at + 6));
      proto = byte_in (slice_index words (at + 7));
      sport = port_in (slice_index words (at + 8));
      dport = port_in (slice_index words (at + 9));
      facts = record { one_family = one_family_by (family == 4) _ _ _ _ _ _ };
    }

-- what the types of its fields say of a selector
pub record SelectorFits (sel : Selector) : Type 0 where
  pub src : AddrFits sel.src.addr
  pub dst : AddrFits sel.dst.addr
  pub proto : sel.proto < 2 ^ 8
  pub sport : PortFits sel.sport
  pub dport : PortFits sel.dport

-- the words of limits: the four times, then four that may be left out
abbrev pub limits_words : Limits → List ℕ
limits_words limits =
    limits.time_soft ∷ limits.time_hard ∷ limits.use_soft ∷ limits.use_hard
    ∷ given_word limits.byte_soft ∷ number_word limits.byte_soft
    ∷ given_word limits.byte_hard ∷ number_word limits.byte_hard
    ∷ given_word limits.packet_soft ∷ number_word limits.packet_soft
    ∷ given_word limits.packet_hard ∷ number_word limits.packet_hard ∷ []

-- the limits that words give, from a place on
abbrev pub limits_of : List ℕ → ℕ → Limits
limits_of words at =
    record {
      time_soft = slice_index words at;
      time_hard = slice_index words (at + 1);
      use_soft = slice_index words (at + 2);
      use_hard = slice_index words (at + 3);
      byte_soft = limit_in (slice_index words (at + 4)) (slice_index words (at + 5));
      byte_hard = limit_in (slice_index words (at + 6)) (slice_index words (at + 7));
      packet_soft = limit_in (slice_index words (at + 8)) (slice_index words (at + 9));
      packet_hard = limit_in (slice_index words (at + 10)) (slice_index words (at + 11));
    }

-- a template's words: both addresses, protocol, SPI, mode, request and level
unfoldable pub template_words : Template → List ℕ
template_words t =
    family_of t.src ∷ high_word t.src ∷ low_word t.src
    ∷ family_of t.dst ∷ high_word t.dst ∷ low_word t.dst
    ∷ proto_number t.proto ∷ t.spi ∷ mode_number t.mode ∷ t.reqid ∷ level_word t.level ∷ []

-- the template that words give
unfoldable pub template_of : List ℕ → Template
template_of words =
    record {
      src = addr_in (slice_index words 0) (slice_index words 1) (slice_index words 2);
      dst = addr_in (slice_index words 3) (slice_index words 4) (slice_index words 5);
      proto = proto_in (slice_index words 6);
      spi = small_in (slice_index words 7);
      mode = mode_in (slice_index words 8);
      reqid = small_in (slice_index words 9);
      level = level_in (slice_index words 10);
    }

-- what the types of its fields say of a template
pub record TemplateFits (t : Template) : Type 0 where
  pub src : AddrFits t.src
  pub dst : AddrFits t.dst
  pub spi : t.spi < 2 ^ 32
  pub reqid : t.reqid < 2 ^ 32
