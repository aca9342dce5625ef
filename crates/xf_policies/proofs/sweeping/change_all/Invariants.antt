use Rattle.std.proofs.Common.{◌≡◌, ℕ, ◌+◌, ◌≤◌, true, List, length}
use Rattle.xf_types.specs.declared.policy.Policy.{Policy}
use Rattle.xf_types.specs.Machine.{Shown}
use Rattle.xf_chain.specs.Chains.{Below}
use Rattle.xf_image.specs.Readings.{listed_in}
use Rattle.xf_inexact.specs.Whole.{SpdStands, whole_end}
use Rattle.xf_spd.specs.Slots.{PoolFits}
use Rattle.xf_policies.specs.Standing.{LeavesOthers, Started, Sweeping}
use Rattle.xf_policies.proofs.sweeping.change_all.Given as goal

abbrev pub invariant-slots : goal.invariant-slots
invariant-slots g l = record {
  size : g.C.Load.size l.c ≡ g.C.Load.size l.fn.c;
  rest : g.C.Load.rest l.c ≡ g.C.Load.rest l.fn.c;
  capacity : g.P.Pool.capacity l.pool ≡ g.P.Pool.capacity l.fn.pool;
  lasts : g.P.Pool.lasts l.pool ≡ g.P.Pool.lasts l.fn.pool;
  held : g.P.Pool.held l.pool ≡ g.P.Pool.held l.fn.pool;
  below : Below l.spd.area.slots l.at;
  few : l.changes + l.left ≤ l.spd.area.slots;
  others : LeavesOthers (g.C.PolicySlots.hidden l.fn.c) l.spd.area.base (whole_end l.spd.area) (g.C.Cells.words l.fn.c) (g.C.Cells.words l.c);
  started : Started l.changes (g.C.Cells.words l.fn.c) (g.C.Cells.words l.c) (g.C.Load.begun l.fn.c) (g.C.Load.begun l.c);
  sweeping : (s : Shown) (es : List (ℕ × Policy)) → SpdStands l.spd.area (g.C.Cells.words l.fn.c) s es → Sweeping l.spd.area (g.C.Cells.words l.c) l.what s es l.at l.left l.changes;
  out : g.P.Pool.taken l.pool ≡ length (listed_in l.spd.area (g.C.Cells.words l.c));
  pool : g.P.Pool.lasts l.fn.pool ≡ true → PoolFits (g.P.Pool.capacity l.pool) (g.P.Pool.taken l.pool) (g.P.Pool.gives l.pool) (g.P.Pool.takes l.pool) l.spd.area.slots (listed_in l.spd.area (g.C.Cells.words l.c));
}

abbrev pub decreases-slots : goal.decreases-slots
decreases-slots g l = l.left
