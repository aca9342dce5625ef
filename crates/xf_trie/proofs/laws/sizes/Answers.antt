use Rattle.xf_trie.proofs.RemoveSizes.{size_remove}
use Rattle.xf_trie.proofs.Counts.{size_bound, size_put, uses_small}
use Rattle.xf_trie.proofs.laws.sizes.Goals as goal

pub returns : goal.returns
returns c = record {
  few = λ t w h. size_bound t w h;
  most = λ k n t. uses_small k n t;
  more = λ a b k n t. size_put a b k n t;
  less = λ k n t. size_remove k n t;
}
