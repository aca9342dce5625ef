-- Many trees of one pool, each at its root.
use Rattle.std.specs.Prelude.{◌≡◌, ℕ, Bool, List, [], if◌then◌else◌, true, ⊤, ◌==◌, ◌∷◌}
use Rattle.xf_trie.specs.declared.trie.Trie.{Trie}
use Rattle.xf_trie.specs.Nodes.{named_at}
use Rattle.xf_trie.specs.Pools.{IsPool, Layout}
use Rattle.xf_trie.specs.Slots.{Distinct}
use Rattle.xf_trie.specs.Trees.{Fork, IsTree, Leaf, Stands, Tree}

-- the tree of the pool with its root at a place
abbrev pub at_root : Trie → ℕ → Trie
at_root trie root = record { root = root; nodes = trie.nodes; free = trie.free; count = trie.count }

-- each node of a tree has this owner
abbrev pub Owned : (ℕ → ℕ) → ℕ → Tree → Type 0
Owned owner root Leaf = ⊤
Owned owner root (Fork node left right) = (owner node.slot ≡ root) × Owned owner root left × Owned owner root right

-- each of these slots has this owner
abbrev pub OwnedAll : (ℕ → ℕ) → ℕ → List ℕ → Type 0
OwnedAll owner root [] = ⊤
OwnedAll owner root (slot ∷ slots) = (owner slot ≡ root) × OwnedAll owner root slots

-- The words of the pool lie apart from one another and from each root.
pub record Layouts (trie : Trie) (roots : ℕ → Bool) : Type 0 where
  pub each : (r : ℕ) → roots r ≡ true → Layout (at_root trie r)

-- The words hold these trees at these roots, no node is of two of them, and these are free. The owner of a node is the place
-- of its tree's root, or of the free words.
pub record IsForest (trie : Trie) (image : List ℕ) (roots : ℕ → Bool) (trees : ℕ → Tree) (free : List ℕ) : Type 0 where
  pub owner : ℕ → ℕ
  pub stands : (r : ℕ) → roots r ≡ true → Stands trie image (named_at trie image r) (trees r)
  pub ordered : (r : ℕ) → roots r ≡ true → IsTree (trees r)
  pub once : (r : ℕ) → roots r ≡ true → Distinct (trees r)
  pub owned : (r : ℕ) → roots r ≡ true → Owned owner r (trees r)
  pub pool : IsPool trie image free
  pub spare : OwnedAll owner trie.free free

-- the trees with another one at a root
abbrev pub grown : (ℕ → Tree) → ℕ → Tree → ℕ → Tree
grown trees root tree r = if r == root then tree else trees r
