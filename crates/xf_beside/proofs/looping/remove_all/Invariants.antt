use Rattle.std.proofs.Common.{◌≡◌, ℕ, ◌+◌, ◌≤◌, List}
use Rattle.xf_types.specs.declared.policy.Policy.{Policy}
use Rattle.xf_types.specs.IsMachine.{IsInRoom}
use Rattle.xf_types.specs.Machine.{Shown}
use Rattle.xf_chain.specs.Chains.{Below}
use Rattle.xf_inexact.specs.Whole.{SpdStands}
use Rattle.xf_image.specs.Readings.{listed_in}
use Rattle.xf_spd.specs.Slots.{PoolFits}
use Rattle.xf_beside.specs.Leaving.{leaves}
use Rattle.xf_beside.specs.Passing.{Removing}
use Rattle.xf_beside.proofs.looping.remove_all.Given as goal

abbrev pub invariant-slots : goal.invariant-slots
invariant-slots g l = record {
  size : g.C.Load.size l.c ≡ g.C.Load.size l.fn.c;
  lasts : g.P.Pool.lasts l.pool ≡ g.P.Pool.lasts l.fn.pool;
  below : Below l.spd.area.slots l.at;
  few : l.removed + l.left ≤ 4096;
  removing : (s : Shown) (es : List (ℕ × Policy)) → IsInRoom s → SpdStands l.spd.area (g.C.Cells.words l.fn.c) s es → Removing l.spd.area (g.C.Cells.words l.c) (leaves l.leaving) s l.at l.left l.removed;
  pool : PoolFits (g.P.Pool.capacity l.pool) (g.P.Pool.taken l.pool) (g.P.Pool.gives l.pool) (g.P.Pool.takes l.pool) l.spd.area.slots (listed_in l.spd.area (g.C.Cells.words l.c));
}

abbrev pub decreases-slots : goal.decreases-slots
decreases-slots g l = l.left
