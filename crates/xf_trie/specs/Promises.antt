-- What an insertion and a removal leave.
use Rattle.std.specs.Prelude.{◌≡◌, ℕ, List, drop, slice_index, ◌++◌, ◌∷◌}
use Rattle.xf_trie.specs.declared.trie.Trie.{Trie}
use Rattle.xf_trie.specs.Nodes.{named_at}
use Rattle.xf_trie.specs.Pools.{Apart, Beside, IsTrie, Layout}
use Rattle.xf_trie.specs.Puts.{Puts, put_tree, put_uses}
use Rattle.xf_trie.specs.Slots.{Disjoint}
use Rattle.xf_trie.specs.Takes.{Takes, remove_frees, remove_tree}
use Rattle.xf_trie.specs.Trees.{Stands, Tree, items_of}

-- What an insertion leaves of words that hold a tree of the pool, where these free nodes come first.
pub record InsertLeaves (trie : Trie) (before after : List ℕ) (key len slot first second : ℕ) (rest : List ℕ) (tree : Tree) : Type 0 where
  -- the tree with the prefix, and the free nodes without those that it took
  pub trie_is : IsTrie trie after (put_tree first second key len tree) (drop (put_uses key len tree) (first ∷ (second ∷ rest)))
  -- the prefix comes to those that were inserted
  pub prefixes : Puts key len slot (items_of tree) (items_of (put_tree first second key len tree))
  -- another tree of the pool stays
  pub others : (other : Tree) (root : ℕ) → Beside trie root → Stands trie before (named_at trie before root) other
      → Apart (first ∷ (second ∷ rest)) other → Disjoint other tree → Stands trie after (named_at trie after root) other
  -- and so does every word that is none of theirs
  pub words : (place : ℕ) → Beside trie place → slice_index after place ≡ slice_index before place

-- What an insertion leaves, whichever tree the words hold.
pub record Inserts (trie : Trie) (before after : List ℕ) (key len slot : ℕ) : Type 0 where
  pub leaves : (first second : ℕ) (rest : List ℕ) (tree : Tree) → Layout trie → IsTrie trie before tree (first ∷ (second ∷ rest))
      → InsertLeaves trie before after key len slot first second rest tree

-- What a removal leaves of words that hold a tree of the pool with the prefix.
pub record RemoveLeaves (trie : Trie) (before after : List ℕ) (key len : ℕ) (free : List ℕ) (tree : Tree) : Type 0 where
  -- the tree without the prefix, and the free nodes with those that it gave back
  pub trie_is : IsTrie trie after (remove_tree key len tree) (remove_frees key len tree ++ free)
  -- the prefix goes from those that were inserted
  pub prefixes : Takes key len (items_of tree) (items_of (remove_tree key len tree))
  -- another tree of the pool stays
  pub others : (other : Tree) (root : ℕ) → Beside trie root → Stands trie before (named_at trie before root) other
      → Disjoint other tree → Stands trie after (named_at trie after root) other
  -- and so does every word that is none of theirs
  pub words : (place : ℕ) → Beside trie place → slice_index after place ≡ slice_index before place

-- What a removal leaves, whichever tree the words hold.
pub record Removes (trie : Trie) (before after : List ℕ) (key len : ℕ) : Type 0 where
  pub leaves : (free : List ℕ) (tree : Tree) → Layout trie → IsTrie trie before tree free → RemoveLeaves trie before after key len free tree
