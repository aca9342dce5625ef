use Rattle.std.proofs.Common.{◌≡◌, ℕ, true, List, length}
use Rattle.xf_types.specs.declared.state.Sa.{Sa}
use Rattle.xf_types.specs.Machine.{Shown}
use Rattle.xf_chain.specs.Chains.{Below}
use Rattle.xf_sadidx.specs.Layout.{end_of}
use Rattle.xf_sadimage.specs.States.{StatesStand}
use Rattle.xf_sad.specs.Slots.{listed_in}
use Rattle.xf_policies.specs.Standing.{LeavesOthers}
use Rattle.xf_ticking.specs.Ready.{FitsStates}
use Rattle.xf_ticking.specs.Walks.{Aging}
use Rattle.xf_ticking.proofs.walking.states_later.Given as goal

abbrev pub invariant-slots : goal.invariant-slots
invariant-slots g l = record {
  size : g.D.Load.size l.parts ≡ g.D.Load.size l.fn.parts;
  hidden : g.D.Parts.hidden l.parts ≡ g.D.Parts.hidden l.fn.parts;
  beside : g.D.Parts.beside l.parts ≡ g.D.Parts.beside l.fn.parts;
  capacity : g.P.Pool.capacity l.pool ≡ g.P.Pool.capacity l.fn.pool;
  lasts : g.P.Pool.lasts l.pool ≡ g.P.Pool.lasts l.fn.pool;
  held : g.P.Pool.held l.pool ≡ g.P.Pool.held l.fn.pool;
  below : Below l.layout.states.slots l.at;
  others : LeavesOthers (g.D.Parts.hidden l.fn.parts) l.layout.states.base (end_of l.layout.states) (g.D.Cells.words l.fn.parts) (g.D.Cells.words l.parts);
  aging : (s : Shown) (es : List (ℕ × Sa)) → StatesStand l.layout.states (g.D.Cells.words l.fn.parts) s es
      → Aging l.layout.states (g.D.Cells.words l.parts) l.now (g.D.Parts.beside l.fn.parts) s es l.at l.left;
  out : g.P.Pool.taken l.pool ≡ length (listed_in l.layout.states (g.D.Cells.words l.parts));
  pool : g.P.Pool.lasts l.fn.pool ≡ true → FitsStates l.layout (g.D.Cells.words l.parts) (g.P.Pool.capacity l.pool) (g.P.Pool.taken l.pool) (g.P.Pool.gives l.pool) (g.P.Pool.takes l.pool);
}

abbrev pub decreases-slots : goal.decreases-slots
decreases-slots g l = l.left
