use Rattle.std.proofs.Common.{◌≡◌, true}
use Rattle.xf_trie.specs.Pools.{IsPrefixSet}
use Rattle.xf_trie.proofs.tests.run.Given as goal

abbrev pub invariant-changes : goal.invariant-changes
invariant-changes g l = record {
  size : g.C.Load.size l.c ≡ g.C.Load.size l.fn.c;
  begun : g.C.Load.begun l.c ≡ true;
  prefixes : IsPrefixSet l.tree (g.C.Cells.words l.c);
}

abbrev pub invariant-rest : goal.invariant-rest
invariant-rest g l = record {
  size : g.C.Load.size l.c ≡ g.C.Load.size l.fn.c;
  begun : g.C.Load.begun l.c ≡ true;
  prefixes : IsPrefixSet l.tree (g.C.Cells.words l.c);
}
