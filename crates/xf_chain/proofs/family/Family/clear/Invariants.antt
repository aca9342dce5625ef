use Rattle.std.proofs.Common.{◌≡◌, ◌+◌, true}
use Rattle.xf_chain.specs.Families.{emptied}
use Rattle.xf_chain.proofs.family.Family.clear.Given as goal

abbrev pub invariant-heads : goal.invariant-heads
invariant-heads g l = record {
  size : g.C.Load.size l.cells ≡ g.C.Load.size l.fn.cells;
  begun : g.C.Load.begun l.cells ≡ true;
  rest : g.C.Load.rest l.cells ≡ g.C.Load.rest l.fn.cells;
  heads : l.head + l.left ≡ l.self.heads + l.self.count;
  words : emptied l.head l.left (g.C.Cells.words l.cells) ≡ emptied l.self.heads l.self.count (g.C.Cells.words l.fn.cells);
}

abbrev pub decreases-heads : goal.decreases-heads
decreases-heads g l = l.left
