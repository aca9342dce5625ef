use Rattle.std.proofs.Common.{All, ◌<◌, ◌≡◌, ℕ, ◌+◌, ◌*◌, ◌≤◌, length, List, drop}
use Rattle.xf_inexact.proofs.Most.{sum_most}
use Rattle.xf_cells.specs.Words.{Narrows}
use Rattle.xf_trie.specs.Keys.{key_of}
use Rattle.xf_trie.specs.Walks.{visit_of}
use Rattle.xf_inexact.specs.Places.{below_of, count_of}
use Rattle.xf_inexact.specs.Walks.{best_at, chains_cost, walk_cost}
use Rattle.xf_inexact.proofs.inexact.Inexact.best_below.Given as goal

abbrev pub invariant-nodes : goal.invariant-nodes
invariant-nodes g l = record {
  size : g.L.Load.size l.l ≡ g.L.Load.size l.fn.l;
  begun : g.L.Load.begun l.l ≡ g.L.Load.begun l.fn.l;
  rest : g.L.Load.rest l.l ≡ g.L.Load.rest l.fn.l;
  among : Narrows (g.L.Load.agrees l.fn.l) (g.L.Load.agrees l.l);
  below : All (λ slot. slot < count_of l.self) l.nodes;
  room : length l.nodes ≤ 129;
  most : g.L.Load.loads l.l + sum_most (4 + 16 * l.self.area.slots) (drop l.source-index l.nodes) ≤ g.L.Load.loads l.fn.l + 651 + sum_most (4 + 16 * l.self.area.slots) l.nodes;
  small : sum_most (4 + 16 * l.self.area.slots) l.nodes ≤ 129 * (4 + 16 * l.self.area.slots);
  loads : (image : List ℕ) → g.L.Load.agrees l.l image → g.L.Load.loads l.l + chains_cost l.self image (drop l.source-index l.nodes) ≤ g.L.Load.loads l.fn.l + (walk_cost l.self image (key_of l.flow.src) l.node + chains_cost l.self image l.nodes);
  visited : (image : List ℕ) → g.L.Load.agrees l.l image → l.nodes ≡ visit_of (below_of l.self l.node) image (key_of l.flow.src);
  answer : (image : List ℕ) → g.L.Load.agrees l.l image → best_at l.self image l.ptype l.flow l.first (drop l.source-index l.nodes) ≡ best_at l.self image l.ptype l.flow l.fn.best l.nodes;
}
