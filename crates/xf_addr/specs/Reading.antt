-- The address that a text spells, as a function. `spelling_laws` says that it is the grammar.
use Rattle.std.specs.Prelude.{ℕ, List, Option, Some, None, option_map}
use Rattle.std.specs.Net.Reader.{read_ipv4, read_ipv6, whole_value}
use Rattle.xf_types.specs.declared.network.Addr.{Addr}
use Rattle.xf_addr.specs.Spelling.{addr_of_octets, addr_of_groups}

-- the first, if there is one, else the second
abbrev pub or_else : {A : Type 0} → Option A → Option A → Option A
or_else (Some x) y = Some x
or_else None y = y

-- the address that the text spells
unfoldable pub addr_of : List ℕ → Option Addr
addr_of text =
    or_else (option_map addr_of_octets (whole_value (read_ipv4 text)))
    (option_map addr_of_groups (whole_value (read_ipv6 text)))
