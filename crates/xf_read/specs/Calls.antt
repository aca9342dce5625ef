-- From fields to policies, and from a head and fields to what a line asks for.
use Rattle.std.specs.Prelude.{ℕ, if◌then◌else◌, List, Option, None, Some, unwrap_or, Result, Ok, Err}
use Rattle.xf_types.specs.declared.call.Call.TheVariants as call
use Rattle.xf_types.specs.declared.network.Dir.{Dir}
use Rattle.xf_types.specs.declared.network.Ptype.TheVariants.{Main}
use Rattle.xf_types.specs.declared.network.Selector.{Selector}
use Rattle.xf_types.specs.declared.policy.Action.TheVariants.{Allow}
use Rattle.xf_types.specs.declared.policy.PolicyFilter.{PolicyFilter}
use Rattle.xf_types.specs.declared.policy.PolicyKey.{PolicyKey}
use Rattle.xf_types.specs.declared.policy.PolicyKey.TheVariants as key
use Rattle.xf_types.specs.declared.policy.PolicySpec.{PolicySpec}
use Rattle.xf_types.specs.declared.policy.Template.{Template}
use Rattle.xf_types.specs.declared.status.Reason.{Reason}
use Rattle.xf_types.specs.declared.status.Reason.TheVariants.{Mixed}
use Rattle.xf_grammar.specs.declared.head.Head.{Head}
use Rattle.xf_grammar.specs.declared.head.Head.TheVariants as head
use Rattle.xf_grammar.specs.declared.row.Field.{Field}
use Rattle.xf_grammar.specs.declared.row.Slot.TheVariants as slot
use Rattle.xf_grammar.specs.Grammar.{◌>>=◌}
use Rattle.xf_grammar.specs.Lookups.{own, value_at, has_any, u8_at, u32_at, prefix_at_slot, dir_in, ptype_in, action_in, ipsec_in, required}
use Rattle.xf_read.specs.declared.policy.TheConstants.{SAME_SLOTS}
use Rattle.xf_read.specs.declared.reader.Item.{Item}
use Rattle.xf_read.specs.declared.reader.Item.TheVariants.{One, Sync}
use Rattle.xf_read.specs.Allocs.{alloc_of}
use Rattle.xf_read.specs.Flows.{flow_of, send_of}
use Rattle.xf_read.specs.Limits.{limits_of}
use Rattle.xf_read.specs.Marks.{mark_of}
use Rattle.xf_read.specs.Packets.{packet_of}
use Rattle.xf_read.specs.Selectors.{source_port, dest_port, judged_ports, judged_families, src_of, selector_with, selector_of, given_end}
use Rattle.xf_read.specs.States.{sa_of, sa_id_of, sa_filter_of}
use Rattle.xf_read.specs.Templates.{templates_of, judged_templates}
use Rattle.xf_read.specs.Thresholds.{thresholds_of, some_thresholds}
use Rattle.xf_read.specs.Ticks.{tick_of}
use Rattle.xf_read.specs.Workers.{worker_of}

-- ---- policies that are added or updated

-- a policy of this selector and these templates: the other words have their defaults
abbrev pub spec_with : Dir → Selector → List Template → List Field → PolicySpec
spec_with dir sel templates fs = record {
  dir = dir;
  ptype = unwrap_or (ptype_in fs) Main;
  sel = sel;
  mark = mark_of fs;
  if_id = unwrap_or (u32_at slot.IfId fs) 0;
  priority = unwrap_or (u32_at slot.Priority fs) 0;
  action = unwrap_or (action_in fs) Allow;
  index = unwrap_or (u32_at slot.Index fs) 0;
  limits = limits_of fs;
  templates = templates;
}

-- dir is required; each fault is sought over the policy with all its templates before the next one
unfoldable pub spec_of : List Field → Result PolicySpec Reason
spec_of fs = do
  dir ← required (dir_in fs)
  templates ← templates_of (src_of own fs).addr fs
  sport ← source_port own fs
  dport ← dest_port own fs
  _ ← judged_templates templates
  sel ← selector_with own sport dport fs
  Ok (spec_with dir sel templates fs)

-- ---- policies that are named

-- an index stands alone with the direction
abbrev pub index_key : Dir → ℕ → List Field → Result PolicyKey Reason
index_key dir index fs = if has_any SAME_SLOTS fs then Err Mixed else Ok (key.Index dir index)

-- without an index the policy is named by what makes two policies the same
unfoldable pub same_key : Dir → List Field → Result PolicyKey Reason
same_key dir fs = do
  sel ← selector_of own fs
  Ok (key.Same dir (unwrap_or (ptype_in fs) Main) sel (mark_of fs) (unwrap_or (u32_at slot.IfId fs) 0))

-- by an index, or without one
abbrev pub key_by : Dir → Option ℕ → List Field → Result PolicyKey Reason
key_by dir None fs = same_key dir fs
key_by dir (Some index) fs = index_key dir index fs

-- the policy that a line names
unfoldable pub key_of : List Field → Result PolicyKey Reason
key_of fs = do
  dir ← required (dir_in fs)
  key_by dir (u32_at slot.Index fs) fs

-- ---- policies that are filtered

-- each word that is given is a condition
unfoldable pub filter_of : List Field → Result PolicyFilter Reason
filter_of fs = do
  sport ← source_port own fs
  dport ← dest_port own fs
  _ ← judged_families (prefix_at_slot slot.Src fs) (prefix_at_slot slot.Dst fs)
  _ ← judged_ports own fs
  Ok (record {
    dir = dir_in fs;
    ptype = ptype_in fs;
    action = action_in fs;
    priority = u32_at slot.Priority fs;
    index = u32_at slot.Index fs;
    src = given_end (value_at slot.Src fs) (prefix_at_slot slot.Dst fs);
    dst = given_end (value_at slot.Dst fs) (prefix_at_slot slot.Src fs);
    proto = u8_at slot.Proto fs;
    sport = sport;
    dport = dport;
  })

-- ---- what a line asks for

-- by the line's head
unfoldable pub asked_of : Head → List Field → Result Item Reason
asked_of head.PolicyAdd fs = spec_of fs >>= λ spec. Ok (One (call.PolicyAdd spec))
asked_of head.PolicyUpdate fs = spec_of fs >>= λ spec. Ok (One (call.PolicyUpdate spec))
asked_of head.PolicyDelete fs = key_of fs >>= λ key. Ok (One (call.PolicyDelete key))
asked_of head.PolicyGet fs = key_of fs >>= λ key. Ok (One (call.PolicyGet key))
asked_of head.PolicyDeleteAll fs = filter_of fs >>= λ filter. Ok (One (call.PolicyDeleteAll filter))
asked_of head.PolicyList fs = filter_of fs >>= λ filter. Ok (One (call.PolicyList filter))
asked_of head.PolicyFlush fs = Ok (One (call.PolicyFlush (ptype_in fs)))
asked_of head.PolicyCount fs = Ok (One call.PolicyCount)
asked_of head.PolicySet fs = some_thresholds (thresholds_of fs) >>= λ t. Ok (One (call.PolicySet t))
asked_of head.StateAdd fs = sa_of fs >>= λ spec. Ok (One (call.StateAdd spec))
asked_of head.StateUpdate fs = sa_of fs >>= λ spec. Ok (One (call.StateUpdate spec))
asked_of head.StateDelete fs = sa_id_of fs >>= λ id. Ok (One (call.StateDelete id))
asked_of head.StateGet fs = sa_id_of fs >>= λ id. Ok (One (call.StateGet id))
asked_of head.StateDeleteAll fs = sa_filter_of fs >>= λ filter. Ok (One (call.StateDeleteAll filter))
asked_of head.StateList fs = sa_filter_of fs >>= λ filter. Ok (One (call.StateList filter))
asked_of head.StateFlush fs = Ok (One (call.StateFlush (ipsec_in fs)))
asked_of head.StateCount fs = Ok (One call.StateCount)
asked_of head.AllocSpi fs = alloc_of fs >>= λ spec. Ok (One (call.AllocSpi spec))
asked_of (head.Flow dir) fs = flow_of dir fs >>= λ flow. Ok (One (call.Flow flow))
asked_of head.Send fs = send_of fs
asked_of head.Packet fs = packet_of fs >>= λ packet. Ok (One (call.Packet packet))
asked_of head.Tick fs = tick_of fs
asked_of head.Worker fs = worker_of fs
asked_of head.Sync fs = Ok Sync
