-- From fields to flows, and to what is sent along them.
use Rattle.std.specs.Prelude.{List, unwrap_or, Result, Ok}
use Rattle.xf_types.specs.declared.network.Dir.{Dir}
use Rattle.xf_types.specs.declared.network.Dir.TheVariants.{Out}
use Rattle.xf_types.specs.declared.network.Flow.{Flow}
use Rattle.xf_types.specs.declared.status.Reason.{Reason}
use Rattle.xf_grammar.specs.declared.row.Field.{Field}
use Rattle.xf_grammar.specs.declared.row.Slot.TheVariants as slot
use Rattle.xf_grammar.specs.Grammar.{◌>>=◌}
use Rattle.xf_grammar.specs.Lookups.{own, u32_at, addr_at, required}
use Rattle.xf_read.specs.declared.reader.Item.{Item}
use Rattle.xf_read.specs.declared.reader.Item.TheVariants.{Send}
use Rattle.xf_read.specs.Selectors.{source_port, dest_port, judged_ports, judged_family, proto_of}

-- src and dst are required, and the other words are 0 where they are left out
unfoldable pub flow_of : Dir → List Field → Result Flow Reason
flow_of dir fs = do
  src ← required (addr_at slot.Src fs)
  dst ← required (addr_at slot.Dst fs)
  sport ← source_port own fs
  dport ← dest_port own fs
  _ ← judged_family src dst
  _ ← judged_ports own fs
  Ok (record {
    dir = dir;
    src = src;
    dst = dst;
    proto = proto_of own fs;
    sport = unwrap_or sport 0;
    dport = unwrap_or dport 0;
    mark = unwrap_or (u32_at slot.Mark fs) 0;
    if_id = unwrap_or (u32_at slot.IfId fs) 0;
  })

-- a flow that goes out, and the length of its packets, which is 0 where it is left out
unfoldable pub send_of : List Field → Result Item Reason
send_of fs = do
  flow ← flow_of Out fs
  Ok (Send flow (unwrap_or (u32_at slot.Len fs) 0))
