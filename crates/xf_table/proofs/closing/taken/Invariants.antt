use Rattle.std.proofs.Common.{◌-◌, ◌≡◌, ◌≤◌, vec_len, vec_capacity}
use Rattle.std.specs.Mem.Slots.{slots_items, slots_filled, slots_len}
use Rattle.std.specs.Mem.Slots.Ownership.{Filled}
use Rattle.xf_table.specs.Emptied.{AreValues, IsEmptied}
use Rattle.xf_table.proofs.closing.taken.Given as goal

abbrev pub invariant-loop-i : goal.invariant-loop-i
invariant-loop-i g l = record {
  filled : Filled (slots_filled l.closed.slots) l.i (slots_len l.closed.slots);
  emptied : IsEmptied (slots_filled l.closed.slots) l.i;
  same : slots_items l.closed.slots ≡ slots_items l.fn.closed.slots;
  count : slots_len l.closed.slots ≡ l.slots;
  size : (vec_len l.values ≡ l.i) × (l.i ≤ l.slots) × (l.slots ≤ vec_capacity l.values);
  values : AreValues (slots_items l.fn.closed.slots) l.i l.values.items;
}

abbrev pub decreases-loop-i : goal.decreases-loop-i
decreases-loop-i g l = l.slots - l.i
