use Rattle.std.proofs.Common.{◌≡◌}
use Rattle.xf_trie.proofs.tests.compare.Given as goal

abbrev pub invariant-prefixes : goal.invariant-prefixes
invariant-prefixes g l = record {
  size : g.C.Load.size l.c ≡ g.C.Load.size l.fn.c;
  begun : g.C.Load.begun l.c ≡ g.C.Load.begun l.fn.c;
  words : g.C.Cells.words l.c ≡ g.C.Cells.words l.fn.c;
}
