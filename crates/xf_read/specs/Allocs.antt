-- From fields to requests for a fresh SPI.
use Rattle.std.specs.Prelude.{ℕ, List, unwrap_or, Result, Ok}
use Rattle.xf_types.specs.declared.network.Proto.{Proto}
use Rattle.xf_types.specs.declared.network.Proto.TheVariants.{Esp, Ah, Comp}
use Rattle.xf_types.specs.declared.network.Addr.{Addr}
use Rattle.xf_types.specs.declared.policy.Mode.TheVariants.{Transport}
use Rattle.xf_types.specs.declared.state.AllocSpec.{AllocSpec}
use Rattle.xf_types.specs.declared.status.Reason.{Reason}
use Rattle.xf_grammar.specs.declared.row.Field.{Field}
use Rattle.xf_grammar.specs.declared.row.Slot.TheVariants as slot
use Rattle.xf_grammar.specs.Grammar.{◌>>=◌}
use Rattle.xf_grammar.specs.Lookups.{u32_at, addr_at, ipsec_in, mode_in, required}
use Rattle.xf_read.specs.Marks.{mark_of}
use Rattle.xf_read.specs.Selectors.{source_or_zero, judged_family}

-- the least SPI that is given out where none is named: those below are reserved (RFC 4303, 2.1)
abbrev pub least_spi : ℕ
least_spi = 0x100

-- the greatest one: an IPComp state is named by 16 bits (RFC 3173, 3.3)
abbrev pub greatest_spi : Proto → ℕ
greatest_spi Esp = 0x0fffffff
greatest_spi Ah = 0x0fffffff
greatest_spi Comp = 0xffff

-- a request between these addresses: the other words have their defaults
abbrev pub alloc_with : Addr → Addr → Proto → List Field → AllocSpec
alloc_with src dst proto fs = record {
  src = src;
  dst = dst;
  proto = proto;
  mode = unwrap_or (mode_in fs) Transport;
  mark = mark_of fs;
  reqid = unwrap_or (u32_at slot.Reqid fs) 0;
  seq = unwrap_or (u32_at slot.Seq fs) 0;
  min = unwrap_or (u32_at slot.Min fs) least_spi;
  max = unwrap_or (u32_at slot.Max fs) (greatest_spi proto);
}

-- dst and proto are required; a min above max is asked all the same
unfoldable pub alloc_of : List Field → Result AllocSpec Reason
alloc_of fs = do
  dst ← required (addr_at slot.Dst fs)
  proto ← required (ipsec_in fs)
  _ ← judged_family (source_or_zero (addr_at slot.Src fs) dst) dst
  Ok (alloc_with (source_or_zero (addr_at slot.Src fs) dst) dst proto fs)
