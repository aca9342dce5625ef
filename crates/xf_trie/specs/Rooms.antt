-- Whether two nodes can be taken, and what an insertion leaves that asks for it first.
use Rattle.std.specs.Prelude.{ℕ, ◌+◌, Bool, List, None, Option, Some, if◌then◌else◌, nat_lt, ◌&&◌}
use Rattle.xf_trie.specs.declared.trie.Trie.{Trie}
use Rattle.xf_trie.specs.Insertions.{inserted, slot_inserted}
use Rattle.xf_trie.specs.Spares.{head_of, live_of, next_of}

-- the two free nodes that come first are there, and are counted as free
abbrev pub has_room : Trie → List ℕ → Bool
has_room trie image =
    nat_lt (head_of trie image) trie.count && nat_lt (next_of trie image (head_of trie image)) trie.count && nat_lt (live_of trie image + 1) trie.count

-- the words after an insertion where there is room
unfoldable pub room_inserted : Trie → List ℕ → ℕ → ℕ → List ℕ
room_inserted trie image key len = if has_room trie image then inserted trie image key len else image

-- the node of the prefix then
unfoldable pub room_slot : Trie → List ℕ → ℕ → ℕ → Option ℕ
room_slot trie image key len = if has_room trie image then Some (slot_inserted trie image key len) else None
