-- Which slots a tree has, and where its words lie.
use Rattle.std.specs.Prelude.{◌≢◌, ℕ, ⊤}
use Rattle.xf_trie.specs.Trees.{Fork, Leaf, Tree}

-- a slot isn't in a tree
abbrev pub Misses : ℕ → Tree → Type 0
Misses slot Leaf = ⊤
Misses slot (Fork node left right) = (slot ≢ node.slot) × Misses slot left × Misses slot right

-- no slot of a tree is in another
abbrev pub Disjoint : Tree → Tree → Type 0
Disjoint Leaf other = ⊤
Disjoint (Fork node left right) other = Misses node.slot other × Disjoint left other × Disjoint right other

-- no slot comes twice
abbrev pub Distinct : Tree → Type 0
Distinct Leaf = ⊤
Distinct (Fork node left right) =
    Misses node.slot left × Misses node.slot right × Disjoint left right × Distinct left × Distinct right
