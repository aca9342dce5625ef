use Rattle.std.proofs.Common.{◌≡◌, ◌+◌, drop}
use Rattle.std.specs.List.{prefix_len}
use Rattle.xf_bytes.proofs.runs.count_each.Given as goal

abbrev pub invariant-loop-i : goal.invariant-loop-i
invariant-loop-i g l = l.i + prefix_len (g.K.Kind.has l.kind) (drop l.i l.bytes) ≡ prefix_len (g.K.Kind.has l.kind) l.bytes
