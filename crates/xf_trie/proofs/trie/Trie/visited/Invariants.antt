use Rattle.std.proofs.Common.{All, ◌<◌, ◌≡◌, ℕ, ◌+◌, ◌*◌, ◌≤◌, List, ◌++◌, length, map, filter}
use Rattle.arrayvec.specs.ArrayVec.{array_vec_len}
use Rattle.xf_cells.specs.Words.{Narrows}
use Rattle.xf_trie.specs.Nodes.{Below, is_marked, slot_in}
use Rattle.xf_trie.specs.Walks.{path_from, path_of, visit_of}
use Rattle.xf_trie.proofs.trie.Trie.visited.Given as goal

abbrev pub invariant-nodes : goal.invariant-nodes
invariant-nodes g l = record {
  size : g.L.Load.size l.l ≡ g.L.Load.size l.fn.l;
  begun : g.L.Load.begun l.l ≡ g.L.Load.begun l.fn.l;
  rest : g.L.Load.rest l.l ≡ g.L.Load.rest l.fn.l;
  among : Narrows (g.L.Load.agrees l.fn.l) (g.L.Load.agrees l.l);
  below : Below l.self.count l.walk.at;
  nodes : All (λ slot. slot < l.self.count) l.visited.items;
  room : array_vec_len l.visited + l.walk.left ≤ 129;
  most : g.L.Load.loads l.l + 5 * l.walk.left ≤ g.L.Load.loads l.fn.l + 646;
  loads : (image : List ℕ) → g.L.Load.agrees l.l image → g.L.Load.loads l.l + 5 * length (path_from l.self image l.key l.walk.left l.walk.at) ≤ g.L.Load.loads l.fn.l + 1 + 5 * length (path_of l.self image l.key);
  answer : (image : List ℕ) → g.L.Load.agrees l.l image → l.visited.items ++ map slot_in (filter is_marked (path_from l.self image l.key l.walk.left l.walk.at)) ≡ visit_of l.self image l.key;
}

abbrev pub decreases-nodes : goal.decreases-nodes
decreases-nodes g l = l.walk.left
