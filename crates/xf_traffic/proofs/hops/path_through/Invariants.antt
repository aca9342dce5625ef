use Rattle.std.proofs.Common.{◌≡◌, ℕ, ◌+◌, ◌*◌, ◌≤◌, List, length, take}
use Rattle.xf_cells.specs.Words.{Narrows}
use Rattle.xf_traffic.specs.Paths.{hops_in}
use Rattle.xf_traffic.proofs.hops.path_through.Given as goal

abbrev pub invariant-path : goal.invariant-path
invariant-path g l = record {
  size : g.L.Load.size l.l ≡ g.L.Load.size l.fn.l;
  begun : g.L.Load.begun l.l ≡ g.L.Load.begun l.fn.l;
  rest : g.L.Load.rest l.l ≡ g.L.Load.rest l.fn.l;
  among : Narrows (g.L.Load.agrees l.fn.l) (g.L.Load.agrees l.l);
  loads : g.L.Load.loads l.l ≤ g.L.Load.loads l.fn.l + 46 * l.slot-index;
  room : length l.hops.items ≡ l.slot-index;
  hops : (image : List ℕ) → g.L.Load.agrees l.l image → l.hops.items ≡ hops_in l.area image (take l.slot-index l.slots);
}
