-- From fields to limits.
use Rattle.std.specs.Prelude.{List, unwrap_or}
use Rattle.xf_types.specs.declared.policy.Limits.{Limits}
use Rattle.xf_grammar.specs.declared.row.Field.{Field}
use Rattle.xf_grammar.specs.declared.row.Slot.TheVariants as slot
use Rattle.xf_grammar.specs.Lookups.{u64_at}

-- a time of 0 is no limit; a byte or packet limit of 0 is a limit
unfoldable pub limits_of : List Field → Limits
limits_of fs = record {
  time_soft = unwrap_or (u64_at slot.TimeSoft fs) 0;
  time_hard = unwrap_or (u64_at slot.TimeHard fs) 0;
  use_soft = unwrap_or (u64_at slot.UseSoft fs) 0;
  use_hard = unwrap_or (u64_at slot.UseHard fs) 0;
  byte_soft = u64_at slot.ByteSoft fs;
  byte_hard = u64_at slot.ByteHard fs;
  packet_soft = u64_at slot.PacketSoft fs;
  packet_hard = u64_at slot.PacketHard fs;
}
