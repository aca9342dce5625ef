use Rattle.std.proofs.Common.{◌-◌, ◌≡◌, ◌≤◌}
use Rattle.xf_live.specs.Values.{rotated}
use Rattle.xf_live.proofs.slots.turn_round.Given as goal

abbrev pub invariant-loop-i : goal.invariant-loop-i
invariant-loop-i g l = (l.i ≤ l.count) × (l.seat.table_id ≡ l.fn.seat.table_id) × (l.seat.id ≡ l.fn.seat.id) × (l.seat.me ≡ (l.fn.seat.me.0, rotated l.i l.fn.seat.me.1))

abbrev pub decreases-loop-i : goal.decreases-loop-i
decreases-loop-i g l = l.count - l.i
