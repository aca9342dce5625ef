use Rattle.std.proofs.Common.{arith, subst, sym, List, ℕ}
use Rattle.xf_trie.specs.declared.trie.Trie.{Trie}
use Rattle.xf_trie.specs.Pools.{IsPrefixSet, Layout}
use Rattle.xf_trie.proofs.Empties.{zeros_set}
use Rattle.xf_trie.proofs.tests.empty_tree.Goals as goal

tree : Trie
tree = record { root = 0; nodes = 3; free = 1; count = 140 }

layout : Layout tree
unfolding tree
layout = record {
  free = λ s k h b e. absurd (omega arith);
  live = λ s k h b e. absurd (omega arith);
  root = λ s k h b e. absurd (omega arith);
  root_free = λ e. absurd (omega arith);
  root_live = λ e. absurd (omega arith);
}

pub returns-clause-prefixes : goal.returns-clause-prefixes
unfolding tree
returns-clause-prefixes c = subst (λ (words : List ℕ). IsPrefixSet tree words) (sym c.in_ok-cells.ensures.words) (zeros_set tree 1123 layout)
