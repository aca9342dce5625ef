-- From fields to the identity of a state.
use Rattle.std.specs.Prelude.{List, Result, Ok}
use Rattle.xf_types.specs.declared.status.Reason.{Reason}
use Rattle.xf_grammar.specs.declared.row.Field.{Field}
use Rattle.xf_grammar.specs.declared.row.Slot.TheVariants as slot
use Rattle.xf_grammar.specs.Grammar.{◌>>=◌}
use Rattle.xf_grammar.specs.Lookups.{u32_at, addr_at, ipsec_in, required}
use Rattle.xf_read.specs.declared.identity.Identity.{Identity}
use Rattle.xf_read.specs.Selectors.{source_or_zero}

-- dst, proto and spi are required
unfoldable pub identity_of : List Field → Result Identity Reason
identity_of fs = do
  dst ← required (addr_at slot.Dst fs)
  proto ← required (ipsec_in fs)
  spi ← required (u32_at slot.Spi fs)
  Ok (record { src = source_or_zero (addr_at slot.Src fs) dst; dst = dst; proto = proto; spi = spi })
