use Rattle.std.proofs.Common.{◌≡◌, ◌+◌, ◌≤◌, true, length}
use Rattle.xf_types.specs.Machine.{Machine}
use Rattle.xf_chain.specs.Chains.{Below}
use Rattle.xf_sad.specs.Slots.{PoolFits, listed_in}
use Rattle.xf_rows.specs.Stands.{Stands}
use Rattle.xf_statecalls.specs.Choices.{chosen}
use Rattle.xf_statecalls.specs.Ready.{LeavesOthers}
use Rattle.xf_statecalls.specs.Sweeps.{Started, Sweeping}
use Rattle.xf_statecalls.proofs.sweeping.remove_all.Given as goal

abbrev pub invariant-slots : goal.invariant-slots
invariant-slots g l = record {
  size : g.D.Load.size l.parts ≡ g.D.Load.size l.fn.parts;
  hidden : g.D.Parts.hidden l.parts ≡ g.D.Parts.hidden l.fn.parts;
  capacity : g.P.Pool.capacity l.pool ≡ g.P.Pool.capacity l.fn.pool;
  lasts : g.P.Pool.lasts l.pool ≡ g.P.Pool.lasts l.fn.pool;
  held : g.P.Pool.held l.pool ≡ g.P.Pool.held l.fn.pool;
  below : Below l.layout.states.slots l.at;
  few : l.count + l.left ≤ l.layout.states.slots;
  others : LeavesOthers l.layout (g.D.Parts.hidden l.fn.parts) (g.D.Cells.words l.fn.parts) (g.D.Cells.words l.parts) (g.D.Parts.beside l.fn.parts) (g.D.Parts.beside l.parts);
  started : Started l.count (g.D.Cells.words l.fn.parts) (g.D.Cells.words l.parts) (g.D.Parts.beside l.fn.parts) (g.D.Parts.beside l.parts) (g.D.Load.begun l.fn.parts) (g.D.Load.begun l.parts);
  sweeping : (m : Machine) (t : Stands l.layout (g.D.Cells.words l.fn.parts) (g.D.Parts.beside l.fn.parts) m)
      → Sweeping l.layout (g.D.Cells.words l.parts) (g.D.Parts.beside l.parts) (chosen l.choice) m.shown t.rows l.at l.left l.count;
  out : g.P.Pool.taken l.pool ≡ length (listed_in l.layout.states (g.D.Cells.words l.parts));
  pool : g.P.Pool.lasts l.fn.pool ≡ true → PoolFits (g.P.Pool.capacity l.pool) (g.P.Pool.taken l.pool) (g.P.Pool.gives l.pool) (g.P.Pool.takes l.pool) l.layout.states.slots (listed_in l.layout.states (g.D.Cells.words l.parts));
}

abbrev pub decreases-slots : goal.decreases-slots
decreases-slots g l = l.left
