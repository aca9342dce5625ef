use Rattle.std.proofs.Common.{◌≡◌, ℕ, ◌+◌, ◌≤◌, List, None}
use Rattle.xf_cells.specs.Words.{Narrows}
use Rattle.xf_chain.specs.Chains.{Below, slots_of, slots_from}
use Rattle.xf_chain.specs.Families.{last_while, is_other}
use Rattle.xf_chain.proofs.chain.Chain.before.Given as goal

abbrev pub invariant-slots : goal.invariant-slots
invariant-slots g l = record {
  size : g.L.Load.size l.cells ≡ g.L.Load.size l.fn.cells;
  begun : g.L.Load.begun l.cells ≡ g.L.Load.begun l.fn.cells;
  rest : g.L.Load.rest l.cells ≡ g.L.Load.rest l.fn.cells;
  among : Narrows (g.L.Load.agrees l.fn.cells) (g.L.Load.agrees l.cells);
  below : Below l.self.slots l.walk.at;
  last : Below l.self.slots l.last;
  loads : g.L.Load.loads l.cells + l.walk.left ≤ g.L.Load.loads l.fn.cells + 1 + l.self.slots;
  answer : (image : List ℕ) → g.L.Load.agrees l.cells image → last_while (is_other l.slot) l.last (slots_from l.self image l.walk.left l.walk.at) ≡ last_while (is_other l.slot) None (slots_of l.self image);
}

abbrev pub decreases-slots : goal.decreases-slots
decreases-slots g l = l.walk.left
