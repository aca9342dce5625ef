use Rattle.std.proofs.Common.{◌-◌, ◌≡◌, ◌≤◌, take, drop, vec_len, vec_capacity}
use Rattle.std.specs.Mem.Slots.{slots_items}
use Rattle.xf_table.proofs.closing.copied.Given as goal

abbrev pub invariant-loop-i : goal.invariant-loop-i
invariant-loop-i g l = (l.words.items ≡ take l.i (drop l.from (slots_items l.closed.words))) × (vec_len l.words ≡ l.i) × (l.i ≤ l.count) × (l.count ≤ vec_capacity l.words)

abbrev pub decreases-loop-i : goal.decreases-loop-i
decreases-loop-i g l = l.count - l.i
