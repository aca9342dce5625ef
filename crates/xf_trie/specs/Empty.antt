-- Words of zeros.
use Rattle.std.specs.List.{range_with_len}
use Rattle.std.specs.Prelude.{◌≡◌, ℕ, List}
use Rattle.xf_trie.specs.declared.trie.Trie.{Trie}
use Rattle.xf_trie.specs.Pools.{IsTrie}
use Rattle.xf_trie.specs.Spares.{spare_of}
use Rattle.xf_trie.specs.Trees.{Leaf}

-- Words of zeros hold the empty tree, and each node is free.
pub record IsEmpty (trie : Trie) (image : List ℕ) : Type 0 where
  pub tree : IsTrie trie image Leaf (range_with_len 0 trie.count)
  pub spare : spare_of trie image ≡ trie.count
