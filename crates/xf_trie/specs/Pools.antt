-- The free nodes of a pool, and when words hold a tree of it.
use Rattle.std.specs.Prelude.{◌≡◌, ◌≢◌, ℕ, ◌+◌, ◌<◌, List, [], length, ⊤, ◌∷◌}
use Rattle.xf_trie.specs.declared.trie.Trie.{Trie}
use Rattle.xf_trie.specs.Nodes.{place_of, root_of}
use Rattle.xf_trie.specs.Slots.{Distinct, Misses}
use Rattle.xf_trie.specs.Spares.{head_of, live_of, next_of}
use Rattle.xf_trie.specs.Trees.{IsTree, Stands, Tree}

-- from a free node on, just these come
abbrev pub Frees : Trie → List ℕ → ℕ → List ℕ → Type 0
Frees trie image at [] = at ≡ trie.count
Frees trie image at (slot ∷ slots) = (at ≡ slot) × (slot < trie.count) × Frees trie image (next_of trie image slot) slots

-- a slot isn't in a list
abbrev pub Lacks : ℕ → List ℕ → Type 0
Lacks slot [] = ⊤
Lacks slot (other ∷ others) = (slot ≢ other) × Lacks slot others

-- no slot comes twice
abbrev pub Once : List ℕ → Type 0
Once [] = ⊤
Once (slot ∷ slots) = Lacks slot slots × Once slots

-- none of these slots is in a tree
abbrev pub Apart : List ℕ → Tree → Type 0
Apart [] tree = ⊤
Apart (slot ∷ slots) tree = Misses slot tree × Apart slots tree

-- The free nodes of the pool are these, each once, and the others are counted.
pub record IsPool (trie : Trie) (image : List ℕ) (free : List ℕ) : Type 0 where
  pub frees : Frees trie image (head_of trie image) free
  pub once : Once free
  pub count : live_of trie image + length free ≡ trie.count

-- The words of trees of one pool lie apart from the words of the free nodes, and the root from both.
pub record Layout (trie : Trie) : Type 0 where
  pub free : (s k : ℕ) → s < trie.count → k < 8 → place_of trie s + k ≢ trie.free
  pub live : (s k : ℕ) → s < trie.count → k < 8 → place_of trie s + k ≢ trie.free + 1
  pub root : (s k : ℕ) → s < trie.count → k < 8 → place_of trie s + k ≢ trie.root
  pub root_free : trie.root ≢ trie.free
  pub root_live : trie.root ≢ trie.free + 1

-- A place is none of the tree, as the root of another one of the pool.
pub record Beside (trie : Trie) (place : ℕ) : Type 0 where
  pub root : place ≢ trie.root
  pub nodes : (s k : ℕ) → s < trie.count → k < 8 → place_of trie s + k ≢ place
  pub free : place ≢ trie.free
  pub live : place ≢ trie.free + 1

-- The words hold this tree of the pool, whose free nodes are these.
pub record IsTrie (trie : Trie) (image : List ℕ) (tree : Tree) (free : List ℕ) : Type 0 where
  pub stands : Stands trie image (root_of trie image) tree
  pub ordered : IsTree tree
  pub once : Distinct tree
  pub pool : IsPool trie image free
  pub apart : Apart free tree

-- The words stand for a set of prefixes: they hold some tree of the pool.
pub record IsPrefixSet (trie : Trie) (image : List ℕ) : Type 0 where
  pub layout : Layout trie
  pub tree : Tree
  pub free : List ℕ
  pub holds : IsTrie trie image tree free
