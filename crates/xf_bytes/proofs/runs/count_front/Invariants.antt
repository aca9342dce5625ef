use Rattle.std.proofs.Common.{◌≡◌, ◌+◌, ◌-◌, ◌≤◌, length, drop}
use Rattle.std.specs.List.{prefix_len}
use Rattle.xf_bytes.proofs.runs.count_front.Given as goal

abbrev pub invariant-loop-seen : goal.invariant-loop-seen
invariant-loop-seen g l = record {
  within : l.seen ≤ length l.bytes;
  count : l.seen + prefix_len (g.K.Kind.has l.kind) (drop l.seen l.bytes) ≡ prefix_len (g.K.Kind.has l.kind) l.bytes;
}

abbrev pub decreases-loop-seen : goal.decreases-loop-seen
decreases-loop-seen g l = length l.bytes - l.seen
