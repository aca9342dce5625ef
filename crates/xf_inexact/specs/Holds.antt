-- When the words hold the trees, and the policies at their nodes.
use Rattle.std.specs.Prelude.{◌≡◌, ℕ, zero, suc, ◌+◌, ◌&&◌, ◌||◌, ⊤, Bool, true, not, if◌then◌else◌, List, [], ◌∷◌, Option, None, Some, find, is_some, length}
use Rattle.std.specs.List.{list_any}
use Rattle.xf_exact.specs.Parts.{is_in_exact}
use Rattle.xf_index.specs.Indexes.{AllAre, Indexed, is_number}
use Rattle.xf_trie.specs.Forests.{IsForest}
use Rattle.xf_trie.specs.Keys.{key_of}
use Rattle.xf_trie.specs.declared.trie.Node.{Node}
use Rattle.xf_trie.specs.Trees.{Tree, is_prefix, items_of, size_of}
use Rattle.xf_trie.specs.Walks.{slot_found}
use Rattle.xf_types.specs.declared.network.Dir.{Dir}
use Rattle.xf_types.specs.declared.network.Ptype.{Ptype}
use Rattle.xf_types.specs.declared.policy.Policy.{Policy}
use Rattle.xf_types.specs.Address.{family_of}
use Rattle.xf_inexact.specs.declared.inexact.Inexact.{Inexact}
use Rattle.xf_inexact.specs.Keys.{bin_bucket, bin_key, node_of}
use Rattle.xf_inexact.specs.Places.{below_root, bucket_root, chains_of, count_of, is_root, pool_of}

-- how many nodes the trees have at so many roots from a place on
abbrev pub nodes_from : (ℕ → Tree) → ℕ → ℕ → ℕ
nodes_from trees root zero = 0
nodes_from trees root (suc more) = size_of (trees root) + nodes_from trees (root + 1) more

-- The words hold a tree of prefixes at each root, no two share a node, and each node is in one of them or free.
pub record HoldTrees (x : Inexact) (image : List ℕ) : Type 0 where
  pub trees : ℕ → Tree
  pub free : List ℕ
  pub forest : IsForest (pool_of x) image (is_root x) trees free
  pub whole : nodes_from trees x.base (64 + count_of x) + length free ≡ count_of x

-- the node of an inserted prefix of a tree
abbrev pub node_in : Tree → ℕ → ℕ → Option ℕ
node_in tree key len = slot_found (find (is_prefix key len) (items_of tree))

-- the same in the tree below a node, where there is one
abbrev pub node_under : Inexact → (ℕ → Tree) → Option ℕ → ℕ → ℕ → Option ℕ
node_under x trees None key len = None
node_under x trees (Some node) key len = node_in (trees (below_root x node)) key len

-- the node of a bin
abbrev pub bin_node : Inexact → (ℕ → Tree) → Ptype → ℕ → Dir → ℕ → Option ℕ
bin_node x trees ptype family dir if_id =
    node_in (trees (bucket_root x (bin_bucket ptype family dir if_id))) (bin_key ptype family dir if_id) 128

-- the nodes of a policy in the trees: that of its bin
abbrev pub policy_bin : Inexact → (ℕ → Tree) → Policy → Option ℕ
policy_bin x trees p = bin_node x trees p.spec.ptype (family_of p.spec.sel.dst.addr) p.spec.dir p.spec.if_id

-- that of its destination prefix, below it
abbrev pub policy_destination : Inexact → (ℕ → Tree) → Policy → Option ℕ
policy_destination x trees p = node_under x trees (policy_bin x trees p) (key_of p.spec.sel.dst.addr) p.spec.sel.dst.len

-- and that of its source prefix, below that, at which it stands
abbrev pub policy_node : Inexact → (ℕ → Tree) → Policy → Option ℕ
policy_node x trees p = node_under x trees (policy_destination x trees p) (key_of p.spec.sel.src.addr) p.spec.sel.src.len

-- a node is one of these
abbrev pub is_own : Inexact → (ℕ → Tree) → ℕ → Policy → Bool
is_own x trees node p =
    is_number node (policy_bin x trees p) || is_number node (policy_destination x trees p) || is_number node (policy_node x trees p)

-- some policy needs a node: one that the exact part doesn't take
abbrev pub is_needed : Inexact → (ℕ → Tree) → ℕ × ℕ → ℕ × ℕ → List (ℕ × Policy) → ℕ → Bool
is_needed x trees h4 h6 entries node = list_any (λ (e : ℕ × Policy). not (is_in_exact h4 h6 e.1) && is_own x trees node e.1) entries

-- the slot of each of these nodes passes a test
abbrev pub AllNodes : (ℕ → Bool) → List Node → Type 0
AllNodes test [] = ⊤
AllNodes test (node ∷ nodes) = (test node.slot ≡ true) × AllNodes test nodes

-- the chain of a policy: that of its node, where the exact part doesn't take it
abbrev pub inexact_key : Inexact → List ℕ → ℕ × ℕ → ℕ × ℕ → Policy → Option ℕ
inexact_key x image h4 h6 p = if is_in_exact h4 h6 p then None else node_of x image p

-- The words hold the trees; these have exactly the prefixes of the policies that the exact part doesn't take; and each of those stands
-- in the chain of its node.
pub record HoldPart (x : Inexact) (image : List ℕ) (h4 h6 : ℕ × ℕ) (entries : List (ℕ × Policy)) : Type 0 where
  pub trees : HoldTrees x image
  pub nodes : AllAre (λ p. is_in_exact h4 h6 p || is_some (node_of x image p)) true entries
  pub needed : (root : ℕ) → is_root x root ≡ true → AllNodes (is_needed x trees.trees h4 h6 entries) (items_of (trees.trees root))
  pub chains : Indexed (chains_of x) image (inexact_key x image h4 h6) entries
