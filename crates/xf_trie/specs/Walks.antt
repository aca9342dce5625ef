-- The nodes on the way to a key, and what is found there.
use Rattle.std.specs.Prelude.{◌≡◌, ℕ, zero, suc, Bool, List, None, Option, Some, [], filter, find, if◌then◌else◌, map, ◌&&◌, ◌==◌, ◌∷◌}
use Rattle.xf_trie.specs.declared.trie.Node.{Node}
use Rattle.xf_trie.specs.declared.trie.Trie.{Trie}
use Rattle.xf_trie.specs.Keys.{agrees, bit}
use Rattle.xf_trie.specs.Nodes.{child_at, is_marked, node_at, root_of, slot_in}

-- from a node on, the nodes on the way to a key whose prefix holds it, at most so many
abbrev pub path_from : Trie → List ℕ → ℕ → ℕ → Option ℕ → List Node
path_from trie image key zero at = []
path_from trie image key (suc left) None = []
path_from trie image key (suc left) (Some slot) =
    if agrees (node_at trie image slot).key key (node_at trie image slot).len
    then node_at trie image slot ∷ path_from trie image key left (child_at trie image slot (bit key (node_at trie image slot).len))
    else []

-- from the root on
unfoldable pub path_of : Trie → List ℕ → ℕ → List Node
path_of trie image key = path_from trie image key 129 (root_of trie image)

-- what comes next is the front of the nodes, and the others are left
abbrev pub Steps : Option Node → List Node → List Node → Type 0
Steps None nodes left = nodes ≡ []
Steps (Some node) nodes left = nodes ≡ node ∷ left

-- a node has an inserted prefix of this length
abbrev pub is_of : ℕ → Node → Bool
is_of len node = (node.len == len) && node.marked

-- the nodes of the inserted prefixes on the way
unfoldable pub visit_of : Trie → List ℕ → ℕ → List ℕ
visit_of trie image key = map slot_in (filter is_marked (path_of trie image key))

-- the slot of a node, where there is one
abbrev pub slot_found : Option Node → Option ℕ
slot_found None = None
slot_found (Some node) = Some node.slot

-- the node of the inserted prefix of this length on the way
unfoldable pub find_of : Trie → List ℕ → ℕ → ℕ → Option ℕ
find_of trie image key len = slot_found (find (is_of len) (path_of trie image key))
