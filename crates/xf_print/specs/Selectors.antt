-- Selectors, marks, and what names a state.
use Rattle.std.specs.Prelude.{ℕ, List, ◌++◌, codes, decimal}
use Rattle.xf_types.specs.declared.network.Addr.{Addr}
use Rattle.xf_types.specs.declared.network.Mark.{Mark}
use Rattle.xf_types.specs.declared.network.Proto.{Proto}
use Rattle.xf_types.specs.declared.network.Selector.{Selector}
use Rattle.xf_addr.specs.Prefixes.{prefix_text}
use Rattle.xf_addr.specs.Text.{addr_text}
use Rattle.xf_print.specs.Numbers.{hex_text, given_text}
use Rattle.xf_print.specs.Words.{proto_text}

-- the prefixes, the protocol's number, and the ports that are asked for; `sport` and `dport` stand for ICMP too
unfoldable pub selector_text : Selector → List ℕ
selector_text s =
    codes "src " ++ prefix_text s.src ++ codes " dst " ++ prefix_text s.dst ++ codes " proto " ++ decimal s.proto
    ++ given_text (codes " sport ") s.sport ++ given_text (codes " dport ") s.dport

-- a mark and its mask
unfoldable pub mark_text : Mark → List ℕ
mark_text m = codes " mark " ++ hex_text m.value ++ codes " mask " ++ hex_text m.mask

-- the addresses, the protocol and the SPI of a state, or of a template
unfoldable pub identity_text : Addr → Addr → Proto → ℕ → List ℕ
identity_text src dst proto spi =
    codes " src " ++ addr_text src ++ codes " dst " ++ addr_text dst ++ codes " proto " ++ proto_text proto
    ++ codes " spi " ++ hex_text spi
