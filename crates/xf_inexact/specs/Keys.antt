-- The keys of bins, and at which node a policy stands.
use Rattle.std.specs.Prelude.{ℕ, ◌+◌, ◌*◌, ◌%◌, ◌^◌, List, [], ◌∷◌, Option, None, Some, length}
use Rattle.xf_cells.specs.Hashing.{hash_from}
use Rattle.xf_trie.specs.Keys.{key_of}
use Rattle.xf_trie.specs.Walks.{find_of, path_of}
use Rattle.xf_types.specs.declared.network.Dir.{Dir}
use Rattle.xf_types.specs.declared.network.Ptype.{Ptype}
use Rattle.xf_types.specs.declared.network.Selector.{Selector}
use Rattle.xf_types.specs.declared.policy.Policy.{Policy}
use Rattle.xf_types.specs.Address.{family_of}
use Rattle.xf_types.specs.Same.{dir_number, ptype_number}
use Rattle.xf_inexact.specs.declared.inexact.Inexact.{Inexact}
use Rattle.xf_inexact.specs.Places.{below_of, bins_of}

-- the key of a bin: the interface in 32 bits, before it direction, family and ptype in 8 bits each
abbrev pub bin_key : Ptype → ℕ → Dir → ℕ → ℕ
bin_key ptype family dir if_id = if_id + dir_number dir * 2 ^ 32 + family * 2 ^ 40 + ptype_number ptype * 2 ^ 48

-- the bucket of a bin
abbrev pub bin_bucket : Ptype → ℕ → Dir → ℕ → ℕ
bin_bucket ptype family dir if_id =
    hash_from 0x9E3779B97F4A7C15 (ptype_number ptype ∷ family ∷ dir_number dir ∷ if_id ∷ []) % 64

-- the node of a bin, which is a prefix of full length in the tree of its bucket
unfoldable pub bin_of : Inexact → List ℕ → Ptype → ℕ → Dir → ℕ → Option ℕ
bin_of x image ptype family dir if_id =
    find_of (bins_of x (bin_bucket ptype family dir if_id)) image (bin_key ptype family dir if_id) 128

-- how many words that search loads at most
unfoldable pub bin_cost : Inexact → List ℕ → Ptype → ℕ → Dir → ℕ → ℕ
bin_cost x image ptype family dir if_id =
    6 + 5 * length (path_of (bins_of x (bin_bucket ptype family dir if_id)) image (bin_key ptype family dir if_id))

-- the node of a prefix in the tree below a node, where there is one
abbrev pub found_below : Inexact → List ℕ → Option ℕ → ℕ → ℕ → Option ℕ
found_below x image None key len = None
found_below x image (Some node) key len = find_of (below_of x node) image key len

-- the node of a selector: its source prefix below its destination prefix below the bin
unfoldable pub selector_node : Inexact → List ℕ → Dir → Ptype → ℕ → Selector → Option ℕ
selector_node x image dir ptype if_id sel =
    found_below x image
    (found_below x image (bin_of x image ptype (family_of sel.dst.addr) dir if_id) (key_of sel.dst.addr) sel.dst.len)
    (key_of sel.src.addr) sel.src.len

-- the node at which a policy stands
abbrev pub node_of : Inexact → List ℕ → Policy → Option ℕ
node_of x image p = selector_node x image p.spec.dir p.spec.ptype p.spec.if_id p.spec.sel
