-- Laws of trees of prefixes.
use Rattle.std.specs.List.{range_with_len}
use Rattle.std.specs.Prelude.{◌≡◌, ℕ, ◌+◌, ◌*◌, ◌^◌, ◌<◌, ◌≤◌, Bool, List, None, Some, drop, false, filter, find, length, slice_index, true, ◌++◌, ◌∷◌}
use Rattle.xf_cells.specs.Words.{zeros}
use Rattle.xf_types.specs.declared.network.Addr.{Addr}
use Rattle.xf_types.specs.declared.network.Prefix.{Prefix}
use Rattle.xf_types.specs.Address.{family_of, width_of}
use Rattle.xf_types.specs.Facts.{IsPrefix}
use Rattle.xf_types.specs.Selection.{in_prefix}
use Rattle.xf_trie.specs.declared.trie.Node.{Node}
use Rattle.xf_trie.specs.declared.trie.Trie.{Trie}
use Rattle.xf_trie.specs.Forests.{IsForest, Layouts, at_root, grown}
use Rattle.xf_trie.specs.Insertions.{inserted}
use Rattle.xf_trie.specs.Keys.{agrees, key_of}
use Rattle.xf_trie.specs.Nodes.{Lies, place_of}
use Rattle.xf_trie.specs.Pools.{IsPrefixSet}
use Rattle.xf_trie.specs.Puts.{Puts, put_tree, put_uses}
use Rattle.xf_trie.specs.Removals.{removed}
use Rattle.xf_trie.specs.Rooms.{has_room}
use Rattle.xf_trie.specs.Takes.{Takes, remove_frees, remove_tree}
use Rattle.xf_trie.specs.Trees.{IsTree, Leaf, Tree, holds, is_prefix, items_of, size_of}

pub record SizeLaws : Type 0 where
  -- a tree has fewer than twice as many nodes as inserted prefixes
  pub few : (tree : Tree) → IsTree tree → 0 < size_of tree → size_of tree + 1 ≤ 2 * length (items_of tree)
  -- an insertion takes at most two nodes
  pub most : (key len : ℕ) (tree : Tree) → put_uses key len tree ≤ 2
  -- and the tree has them then
  pub more : (first second key len : ℕ) (tree : Tree) → size_of (put_tree first second key len tree) ≡ size_of tree + put_uses key len tree
  -- the nodes that a removal gives back are those that leave the tree
  pub less : (key len : ℕ) (tree : Tree) → size_of (remove_tree key len tree) + length (remove_frees key len tree) ≡ size_of tree

pub record FindLaws : Type 0 where
  -- of the inserted prefixes at most one is this one
  pub one : (key len : ℕ) (tree : Tree) → IsTree tree → length (filter (is_prefix key len) (items_of tree)) ≤ 1
  -- a prefix that was inserted is found, with its node
  pub there : (key len slot : ℕ) (old : List Node) (tree : Tree) → IsTree tree → (q : Puts key len slot old (items_of tree)) → find (is_prefix key len) (items_of tree) ≡ Some q.node
  -- one that was removed isn't
  pub gone : (key len : ℕ) (new : List Node) (tree : Tree) → IsTree tree → Takes key len (items_of tree) new → find (is_prefix key len) new ≡ None
  -- a search that this prefix doesn't pass finds what it found
  pub put : (key len slot : ℕ) (old new : List Node) (p : Node → Bool) (q : Puts key len slot old new) → p q.node ≡ false → find p new ≡ find p old
  pub taken : (key len : ℕ) (old new : List Node) (p : Node → Bool) (q : Takes key len old new) → p q.node ≡ false → find p new ≡ find p old

pub record AddressLaws : Type 0 where
  -- a prefix holds the addresses of its family whose keys agree with its own in as many bits as it has
  pub keys : (addr : Addr) (prefix : Prefix) → family_of prefix.addr ≡ family_of addr → prefix.len ≤ width_of prefix.addr
      → agrees (key_of prefix.addr) (key_of addr) prefix.len ≡ in_prefix addr prefix
  -- and a node that has this prefix holds their keys
  pub node : (addr : Addr) (prefix : Prefix) (node : Node) → family_of prefix.addr ≡ family_of addr → prefix.len ≤ width_of prefix.addr
      → is_prefix (key_of prefix.addr) prefix.len node ≡ true → holds (key_of addr) node ≡ in_prefix addr prefix
  -- two prefixes of one family and of one length whose keys agree have one address
  pub same : (a b : Addr) (len : ℕ) → family_of a ≡ family_of b → IsPrefix a len → IsPrefix b len → agrees (key_of a) (key_of b) len ≡ true → a ≡ b

pub record ForestLaws (trie : Trie) : Type 0 where
  -- the words stand for a set of prefixes at each root
  pub set : (image : List ℕ) (roots : ℕ → Bool) (trees : ℕ → Tree) (free : List ℕ) (root : ℕ)
      → Layouts trie roots → IsForest trie image roots trees free → roots root ≡ true → IsPrefixSet (at_root trie root) image
  -- words of zeros hold empty trees at all roots
  pub empty : (size : ℕ) (roots : ℕ → Bool) → IsForest trie (zeros size) roots (λ r. Leaf) (range_with_len 0 trie.count)
  -- a forest none of whose words was written stays
  pub stays : (image words : List ℕ) (roots : ℕ → Bool) (trees : ℕ → Tree) (free : List ℕ)
      → ((s k : ℕ) → s < trie.count → k < 8 → slice_index words (place_of trie s + k) ≡ slice_index image (place_of trie s + k))
      → slice_index words trie.free ≡ slice_index image trie.free → slice_index words (trie.free + 1) ≡ slice_index image (trie.free + 1)
      → ((r : ℕ) → roots r ≡ true → slice_index words r ≡ slice_index image r)
      → IsForest trie image roots trees free → IsForest trie words roots trees free
  -- where two nodes are free, there is room
  pub room : (image : List ℕ) (roots : ℕ → Bool) (trees : ℕ → Tree) (free : List ℕ) (root : ℕ)
      → IsForest trie image roots trees free → 2 ≤ length free → has_room (at_root trie root) image ≡ true
  -- an insertion into the tree at one root leaves the trees at the others
  pub put : (image : List ℕ) (roots : ℕ → Bool) (trees : ℕ → Tree) (first second : ℕ) (rest : List ℕ) (root key len : ℕ)
      → Lies (at_root trie root) (length image) → Layouts trie roots → len ≤ 128 → key < 2 ^ 128
      → IsForest trie image roots trees (first ∷ (second ∷ rest)) → roots root ≡ true
      → IsForest trie (inserted (at_root trie root) image key len) roots (grown trees root (put_tree first second key len (trees root))) (drop (put_uses key len (trees root)) (first ∷ (second ∷ rest)))
  -- and so does a removal
  pub taken : (image : List ℕ) (roots : ℕ → Bool) (trees : ℕ → Tree) (free : List ℕ) (root key len : ℕ)
      → Lies (at_root trie root) (length image) → Layouts trie roots → IsForest trie image roots trees free → roots root ≡ true
      → IsForest trie (removed (at_root trie root) image key len) roots (grown trees root (remove_tree key len (trees root))) (remove_frees key len (trees root) ++ free)
