use Rattle.std.proofs.Common.{◌-◌, ◌≡◌, ◌≤◌, vec_len, vec_capacity}
use Rattle.xf_live.specs.Ends.{AreRooms}
use Rattle.xf_live.proofs.making.make_held.Given as goal

abbrev pub invariant-loop-made : goal.invariant-loop-made
invariant-loop-made l = record {
  rooms : AreRooms l.slots l.held.items;
  size : (vec_len l.held ≡ l.made) × (l.made ≤ l.seats) × (l.seats ≤ vec_capacity l.held);
}

abbrev pub decreases-loop-made : goal.decreases-loop-made
decreases-loop-made l = l.seats - l.made
