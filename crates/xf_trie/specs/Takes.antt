-- A tree without a prefix.
use Rattle.std.specs.Prelude.{◌≡◌, ℕ, List, [], false, if◌then◌else◌, nat_lt, true, ◌&&◌, ◌++◌, ◌∷◌}
use Rattle.xf_trie.specs.declared.trie.Node.{Node}
use Rattle.xf_trie.specs.Keys.{agrees, bit}
use Rattle.xf_trie.specs.Puts.{with_mark}
use Rattle.xf_trie.specs.Trees.{Fork, Leaf, Tree, is_prefix}

-- the tree of a node that gives its place to its only child where it isn't needed
abbrev pub tidy_fork : Node → Tree → Tree → Tree
tidy_fork node Leaf right = right
tidy_fork node (Fork child one two) Leaf = Fork child one two
tidy_fork node (Fork child one two) (Fork other three four) = Fork node (Fork child one two) (Fork other three four)

-- the same for a node that may be marked
abbrev pub tidy_tree : Node → Tree → Tree → Tree
tidy_tree node left right = if node.marked then Fork node left right else tidy_fork node left right

-- the tree without a prefix
abbrev pub remove_tree : ℕ → ℕ → Tree → Tree
remove_tree key len Leaf = Leaf
remove_tree key len (Fork node left right) =
    if agrees node.key key node.len && nat_lt node.len len
    then (if bit key node.len then tidy_tree node left (remove_tree key len right) else tidy_tree node (remove_tree key len left) right)
    else tidy_tree (with_mark node false) left right

-- What a removal makes of the inserted prefixes: this one goes.
pub record Takes (key len : ℕ) (old new : List Node) : Type 0 where
  pub front : List Node
  pub back : List Node
  pub node : Node
  pub this : is_prefix key len node ≡ true
  pub was : old ≡ front ++ (node ∷ back)
  pub now : new ≡ front ++ back

-- the node that is given back where a node isn't needed
abbrev pub fork_frees : Node → Tree → Tree → List ℕ
fork_frees node Leaf right = node.slot ∷ []
fork_frees node (Fork child one two) Leaf = node.slot ∷ []
fork_frees node (Fork child one two) (Fork other three four) = []

-- the same for a node that may be marked
abbrev pub tidy_frees : Node → Tree → Tree → List ℕ
tidy_frees node left right = if node.marked then [] else fork_frees node left right

-- the nodes that a removal gives back, the latest first
abbrev pub remove_frees : ℕ → ℕ → Tree → List ℕ
remove_frees key len Leaf = []
remove_frees key len (Fork node left right) =
    if agrees node.key key node.len && nat_lt node.len len
    then (if bit key node.len then tidy_frees node left (remove_tree key len right) ++ remove_frees key len right
    else tidy_frees node (remove_tree key len left) right ++ remove_frees key len left)
    else tidy_frees (with_mark node false) left right
