use Rattle.std.proofs.Common.{◌≡◌, ◌<◌}
use Rattle.xf_trie.specs.Insertions.{spot_from, spot_of}
use Rattle.xf_trie.proofs.trie.Trie.spot.Given as goal

abbrev pub invariant-links : goal.invariant-links
invariant-links g l = record {
  size : g.C.Load.size l.c ≡ g.C.Load.size l.fn.c;
  begun : g.C.Load.begun l.c ≡ g.C.Load.begun l.fn.c;
  rest : g.C.Load.rest l.c ≡ g.C.Load.rest l.fn.c;
  words : g.C.Cells.words l.c ≡ g.C.Cells.words l.fn.c;
  within : l.place < g.C.Load.size l.fn.c;
  place : spot_from l.self (g.C.Cells.words l.fn.c) l.key l.len l.left l.place ≡ spot_of l.self (g.C.Cells.words l.fn.c) l.key l.len;
}

abbrev pub decreases-links : goal.decreases-links
decreases-links g l = l.left
