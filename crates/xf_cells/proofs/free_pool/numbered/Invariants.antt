use Rattle.std.proofs.Common.{◌≡◌, ◌≤◌, ◌-◌, length, take}
use Rattle.std.specs.List.{range_with_len}
use Rattle.xf_cells.proofs.free_pool.numbered.Given as goal

abbrev pub invariant-places : goal.invariant-places
invariant-places l = record {
  many : length l.slots.items ≡ l.count;
  within : l.place ≤ l.count;
  done : take l.place l.slots.items ≡ range_with_len 0 l.place;
}

abbrev pub decreases-places : goal.decreases-places
decreases-places l = l.count - l.place
