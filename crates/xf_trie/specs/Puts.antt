-- A tree with one prefix more.
use Rattle.std.specs.Prelude.{◌≡◌, ℕ, Bool, List, false, if◌then◌else◌, nat_lt, true, ◌&&◌, ◌++◌, ◌==◌, ◌∷◌}
use Rattle.xf_trie.specs.declared.trie.Node.{Node}
use Rattle.xf_trie.specs.Insertions.{shared_with}
use Rattle.xf_trie.specs.Keys.{agrees, bit}
use Rattle.xf_trie.specs.Trees.{Fork, Leaf, Tree, is_prefix}

-- a node of these parts
abbrev pub node_of : ℕ → ℕ → ℕ → Bool → Node
node_of slot key len marked = record { slot = slot; key = key; len = len; marked = marked }

-- a node with another mark
abbrev pub with_mark : Node → Bool → Node
with_mark node marked = node_of node.slot node.key node.len marked

-- the tree with a prefix that shares so many first bits with the root, where the way ends there
abbrev pub put_here : ℕ → ℕ → ℕ → ℕ → Node → Tree → Tree → ℕ → Tree
put_here first second key len node left right shared =
    if shared == node.len then Fork (with_mark node true) left right
    else if shared == len then
    (if bit node.key len then Fork (node_of first key len true) Leaf (Fork node left right) else Fork (node_of first key len true) (Fork node left right) Leaf)
    else
    (if bit key shared
    then Fork (node_of second key shared false) (Fork node left right) (Fork (node_of first key len true) Leaf Leaf)
    else Fork (node_of second key shared false) (Fork (node_of first key len true) Leaf Leaf) (Fork node left right))

-- the tree with a prefix, with these two nodes for it
abbrev pub put_tree : ℕ → ℕ → ℕ → ℕ → Tree → Tree
put_tree first second key len Leaf = Fork (node_of first key len true) Leaf Leaf
put_tree first second key len (Fork node left right) =
    if agrees node.key key node.len && nat_lt node.len len
    then (if bit key node.len then Fork node left (put_tree first second key len right) else Fork node (put_tree first second key len left) right)
    else put_here first second key len node left right (shared_with node key len)

-- how many nodes a put takes
abbrev pub put_uses : ℕ → ℕ → Tree → ℕ
put_uses key len Leaf = 1
put_uses key len (Fork node left right) =
    if agrees node.key key node.len && nat_lt node.len len
    then (if bit key node.len then put_uses key len right else put_uses key len left)
    else if shared_with node key len == node.len then 0 else if shared_with node key len == len then 1 else 2

-- What a put makes of the inserted prefixes: the prefix comes to them with this node, unless it was there.
pub record Puts (key len slot : ℕ) (old new : List Node) : Type 0 where
  pub front : List Node
  pub back : List Node
  pub node : Node
  pub before : Bool
  pub this : is_prefix key len node ≡ true
  pub marked : node.marked ≡ true
  pub at : node.slot ≡ slot
  pub was : old ≡ front ++ (if before then node ∷ back else back)
  pub now : new ≡ front ++ (node ∷ back)
