-- What lookups answer on words that hold a tree.
use Rattle.std.specs.Prelude.{◌≡◌, ℕ, ◌+◌, ◌*◌, ◌≤◌, List, Option, filter, find, length, map}
use Rattle.xf_trie.specs.declared.trie.Trie.{Trie}
use Rattle.xf_trie.specs.Nodes.{slot_in}
use Rattle.xf_trie.specs.Trees.{HoldsTree, Rises, Tree, holds, is_prefix, items_of, nodes_of}
use Rattle.xf_trie.specs.Walks.{slot_found}

-- A visit answers the nodes of all inserted prefixes that hold the key, shortest first. It loads at most six words for each node whose
-- prefix holds the key, branches too, and six more.
pub record Visits (trie : Trie) (image : List ℕ) (key before after : ℕ) (slots : List ℕ) : Type 0 where
  pub all : (tree : Tree) → HoldsTree trie image tree → slots ≡ map slot_in (filter (holds key) (items_of tree))
  pub rises : (tree : Tree) → HoldsTree trie image tree → Rises 0 (filter (holds key) (items_of tree))
  pub loads : (tree : Tree) → HoldsTree trie image tree → after ≤ before + 6 * (length (filter (holds key) (nodes_of tree)) + 1)

-- A search answers the node of the inserted prefix, where it was inserted.
pub record Finds (trie : Trie) (image : List ℕ) (key len : ℕ) (slot : Option ℕ) : Type 0 where
  pub one : (tree : Tree) → HoldsTree trie image tree → slot ≡ slot_found (find (is_prefix key len) (items_of tree))
