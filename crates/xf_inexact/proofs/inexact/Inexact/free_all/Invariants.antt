use Rattle.std.proofs.Common.{◌≡◌, ◌+◌, ◌*◌, true}
use Rattle.xf_inexact.specs.Clears.{all_freed, nexts_cleared}
use Rattle.xf_inexact.proofs.inexact.Inexact.free_all.Given as goal

abbrev pub invariant-nodes : goal.invariant-nodes
invariant-nodes g l = record {
  size : g.C.Load.size l.c ≡ g.C.Load.size l.fn.c;
  begun : g.C.Load.begun l.c ≡ true;
  rest : g.C.Load.rest l.c ≡ g.C.Load.rest l.fn.c;
  places : l.place + 8 * l.left ≡ l.self.base + 72 + 61 * l.self.area.slots;
  words : nexts_cleared l.place l.left (g.C.Cells.words l.c) ≡ all_freed l.self (g.C.Cells.words l.fn.c);
}

abbrev pub decreases-nodes : goal.decreases-nodes
decreases-nodes g l = l.left
