-- The words after an insertion.
use Rattle.std.specs.Prelude.{ℕ, zero, suc, ◌+◌, ◌/◌, ◌%◌, ◌^◌, Bool, List, None, Option, Some, false, if◌then◌else◌, min, nat_lt, slice_index, slice_set, true, ◌&&◌, ◌==◌}
use Rattle.xf_trie.specs.declared.trie.Node.{Node}
use Rattle.xf_trie.specs.declared.trie.Trie.{Trie}
use Rattle.xf_trie.specs.Keys.{agrees, bit, common}
use Rattle.xf_trie.specs.Nodes.{link_of, named_at, node_at, place_of}
use Rattle.xf_trie.specs.Spares.{head_of, took}

-- the word of a mark
abbrev pub flag_word : Bool → ℕ
flag_word b = if b then 1 else 0

-- the words after a node was written
unfoldable pub written : Trie → List ℕ → ℕ → ℕ → ℕ → Bool → ℕ → ℕ → List ℕ
written trie image slot key len marked left right =
    slice_set (slice_set (slice_set (slice_set (slice_set (slice_set image
    (place_of trie slot) (key / 2 ^ 64))
    (place_of trie slot + 1) (key % 2 ^ 64))
    (place_of trie slot + 2) len)
    (place_of trie slot + 3) (flag_word marked))
    (place_of trie slot + 4) left)
    (place_of trie slot + 5) right

-- the place of the link below, where the node at a link is a proper front of a prefix
abbrev pub below_at : Trie → List ℕ → ℕ → ℕ → Option ℕ → Option ℕ
below_at trie image key len None = None
below_at trie image key len (Some slot) =
    if agrees (node_at trie image slot).key key (node_at trie image slot).len && nat_lt (node_at trie image slot).len len
    then Some (link_of trie slot (bit key (node_at trie image slot).len)) else None

-- the same for the node that the word at a place names
unfoldable pub below_of : Trie → List ℕ → ℕ → ℕ → ℕ → Option ℕ
below_of trie image key len place = below_at trie image key len (named_at trie image place)

-- the place of the link at which a prefix stands or is to stand, at most so many turns below
abbrev pub spot_from : Trie → List ℕ → ℕ → ℕ → ℕ → ℕ → ℕ
spot_from trie image key len zero place = place
spot_from trie image key len (suc left) place =
    elim (below_of trie image key len place) [ None ↦ place | Some next ↦ spot_from trie image key len left next ]

-- the place where the way from the root ends
unfoldable pub spot_of : Trie → List ℕ → ℕ → ℕ → ℕ
spot_of trie image key len = spot_from trie image key len 129 trie.root

-- the words after one node was put at a link
unfoldable pub alone_at : Trie → List ℕ → ℕ → ℕ → ℕ → ℕ → ℕ → List ℕ
alone_at trie image key len left right place =
    slice_set (written trie (took trie image) (head_of trie image) key len true left right) place (head_of trie image + 1)

-- the word for the left child, where the new node stands on a side
abbrev pub left_word : Bool → ℕ → ℕ → ℕ
left_word side here other = if side then other else here

-- the words after a node and a branch above it were put at a link
unfoldable pub branch_at : Trie → List ℕ → ℕ → ℕ → ℕ → ℕ → ℕ → List ℕ
branch_at trie image key len shared word place =
    slice_set
    (written trie
    (written trie (took trie (took trie image)) (head_of trie image) key len true 0 0)
    (head_of trie (took trie image)) key shared false
    (left_word (bit key shared) (head_of trie image + 1) word) (left_word (bit key shared) word (head_of trie image + 1)))
    place (head_of trie (took trie image) + 1)

-- the words after a node's prefix was marked
abbrev pub marked_at : Trie → List ℕ → ℕ → Bool → List ℕ
marked_at trie image slot marked = slice_set image (place_of trie slot + 3) (flag_word marked)

-- the words after a prefix was put at the link to a node, with which it shares so many first bits
abbrev pub put_node : Trie → List ℕ → ℕ → ℕ → ℕ → Node → ℕ → List ℕ
put_node trie image key len place node shared =
    if shared == node.len then marked_at trie image node.slot true
    else if shared == len then alone_at trie image key len (left_word (bit node.key len) (slice_index image place) 0) (left_word (bit node.key len) 0 (slice_index image place)) place
    else branch_at trie image key len shared (slice_index image place) place

-- the node of the prefix then
abbrev pub put_slot : Trie → List ℕ → Node → ℕ → ℕ
put_slot trie image node shared = if shared == node.len then node.slot else head_of trie image

-- in how many first bits the prefix of a node and another agree
abbrev pub shared_with : Node → ℕ → ℕ → ℕ
shared_with node key len = common node.key key (min node.len len)

-- the words after a prefix was put at the link that names this node, or none
abbrev pub put_in : Trie → List ℕ → ℕ → ℕ → ℕ → Option ℕ → List ℕ
put_in trie image key len place None = alone_at trie image key len 0 0 place
put_in trie image key len place (Some slot) = put_node trie image key len place (node_at trie image slot) (shared_with (node_at trie image slot) key len)

-- the words after a prefix was put at a link
unfoldable pub put_at : Trie → List ℕ → ℕ → ℕ → ℕ → List ℕ
put_at trie image key len place = put_in trie image key len place (named_at trie image place)

-- the node of the prefix then
abbrev pub slot_in_put : Trie → List ℕ → ℕ → ℕ → Option ℕ → ℕ
slot_in_put trie image key len None = head_of trie image
slot_in_put trie image key len (Some slot) = put_slot trie image (node_at trie image slot) (shared_with (node_at trie image slot) key len)

-- the same for the node that the word at a place names
unfoldable pub slot_put : Trie → List ℕ → ℕ → ℕ → ℕ → ℕ
slot_put trie image key len place = slot_in_put trie image key len (named_at trie image place)

-- the words after an insertion
abbrev pub inserted : Trie → List ℕ → ℕ → ℕ → List ℕ
inserted trie image key len = put_at trie image key len (spot_of trie image key len)

-- the node of the prefix then
abbrev pub slot_inserted : Trie → List ℕ → ℕ → ℕ → ℕ
slot_inserted trie image key len = slot_put trie image key len (spot_of trie image key len)
