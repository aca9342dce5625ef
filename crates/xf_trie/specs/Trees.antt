-- Trees of prefixes as values, and when words hold one.
use Rattle.std.specs.Prelude.{◌≡◌, ℕ, ◌+◌, ◌^◌, ◌<◌, ◌≤◌, Bool, List, None, Option, Some, [], false, filter, true, ⊤, ◌&&◌, ◌++◌, ◌==◌, ◌∷◌}
use Rattle.xf_trie.specs.declared.trie.Node.{Node}
use Rattle.xf_trie.specs.declared.trie.Trie.{Trie}
use Rattle.xf_trie.specs.Keys.{agrees, bit}
use Rattle.xf_trie.specs.Nodes.{child_at, is_marked, node_at, root_of}

-- a tree: none, or a node with the trees below it on both sides
pub data Tree : Type 0 where
  Leaf : Tree
  Fork : (node : Node) (left right : Tree) → Tree

-- the words hold this tree, from a node on
abbrev pub Stands : Trie → List ℕ → Option ℕ → Tree → Type 0
Stands trie image at Leaf = at ≡ None
Stands trie image at (Fork node left right) =
    (at ≡ Some node.slot) × (node_at trie image node.slot ≡ node)
    × Stands trie image (child_at trie image node.slot false) left × Stands trie image (child_at trie image node.slot true) right

-- the prefix of a tree's root is longer than a prefix, begins with it and goes on to a side
abbrev pub Under : ℕ → ℕ → Bool → Tree → Type 0
Under key len side Leaf = ⊤
Under key len side (Fork node left right) = (len < node.len) × (agrees key node.key len ≡ true) × (bit node.key len ≡ side)

-- there is a node
abbrev pub is_fork : Tree → Bool
is_fork Leaf = false
is_fork (Fork node left right) = true

-- a prefix that wasn't inserted has two children
abbrev pub Full : Bool → Tree → Tree → Type 0
Full marked left right = marked ≡ false → (is_fork left ≡ true) × (is_fork right ≡ true)

-- A node has a key of 128 bits and no more of them.
pub record Fits (node : Node) : Type 0 where
  pub len : node.len ≤ 128
  pub key : node.key < 2 ^ 128

-- the prefixes stand below those that they begin with
abbrev pub IsTree : Tree → Type 0
IsTree Leaf = ⊤
IsTree (Fork node left right) =
    Fits node × Under node.key node.len false left × Under node.key node.len true right
    × IsTree left × IsTree right × Full node.marked left right

-- the nodes, each before those below it
abbrev pub nodes_of : Tree → List Node
nodes_of Leaf = []
nodes_of (Fork node left right) = node ∷ (nodes_of left ++ nodes_of right)

-- the nodes whose prefix was inserted
abbrev pub items_of : Tree → List Node
items_of tree = filter is_marked (nodes_of tree)

-- a node's prefix holds a key
abbrev pub holds : ℕ → Node → Bool
holds key node = agrees node.key key node.len

-- a node's prefix is this one
abbrev pub is_prefix : ℕ → ℕ → Node → Bool
is_prefix key len node = (node.len == len) && agrees node.key key len

-- each prefix is longer than those before it
abbrev pub Rises : ℕ → List Node → Type 0
Rises least [] = ⊤
Rises least (node ∷ nodes) = (least ≤ node.len) × Rises (node.len + 1) nodes

-- how many nodes a tree has
abbrev pub size_of : Tree → ℕ
size_of Leaf = 0
size_of (Fork node left right) = size_of left + size_of right + 1

-- The words hold this tree of prefixes.
pub record HoldsTree (trie : Trie) (image : List ℕ) (tree : Tree) : Type 0 where
  pub stands : Stands trie image (root_of trie image) tree
  pub ordered : IsTree tree
