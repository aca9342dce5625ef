-- From fields to packets.
use Rattle.std.specs.Prelude.{ℕ, true, List, unwrap_or, Result, Ok}
use Rattle.xf_types.specs.declared.call.Packet.{Packet}
use Rattle.xf_types.specs.declared.status.Reason.{Reason}
use Rattle.xf_grammar.specs.declared.row.Field.{Field}
use Rattle.xf_grammar.specs.declared.row.Slot.TheVariants as slot
use Rattle.xf_grammar.specs.Grammar.{◌>>=◌}
use Rattle.xf_grammar.specs.Lookups.{u32_at, u64_at, icv_in, required}
use Rattle.xf_read.specs.declared.identity.Identity.{Identity}
use Rattle.xf_read.specs.Identity.{identity_of}
use Rattle.xf_read.specs.Selectors.{judged_family}
use Rattle.xf_read.specs.States.{sequence_number, sequence_number_fits}

-- a packet with this number, sent to this state: the integrity check value is right where nothing is said of it
abbrev pub packet_with : Identity → ℕ → List Field → Packet
packet_with id seq fs = record {
  src = id.src;
  dst = id.dst;
  proto = id.proto;
  spi = id.spi;
  seq = sequence_number seq;
  len = unwrap_or (u32_at slot.Len fs) 0;
  mark = unwrap_or (u32_at slot.Mark fs) 0;
  icv_ok = unwrap_or (icv_in fs) true;
  facts = record { seq_fits = sequence_number_fits seq };
}

-- seq is required too
unfoldable pub packet_of : List Field → Result Packet Reason
packet_of fs = do
  id ← identity_of fs
  seq ← required (u64_at slot.Seq fs)
  _ ← judged_family id.src id.dst
  Ok (packet_with id seq fs)
