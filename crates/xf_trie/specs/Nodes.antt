-- Nodes in words: where they stand, and what they are.
use Rattle.std.specs.Prelude.{ℕ, ◌+◌, ◌*◌, ◌^◌, ◌<◌, ◌≤◌, Bool, List, Option, false, min, slice_index, true, ◌==◌}
use Rattle.xf_trie.specs.declared.trie.Node.{Node}
use Rattle.xf_trie.specs.declared.trie.Trie.{Trie}
pub use Rattle.xf_chain.specs.Chains.{slot_of, Below}

-- the first place of a node
abbrev pub place_of : Trie → ℕ → ℕ
place_of trie slot = trie.nodes + 8 * slot

-- the place of the link to a node's child: where the bit after its prefix is 0, or where it is 1
abbrev pub link_of : Trie → ℕ → Bool → ℕ
link_of trie slot false = place_of trie slot + 4
link_of trie slot true = place_of trie slot + 5

-- The words of a tree lie in so many words.
pub record Lies (trie : Trie) (size : ℕ) : Type 0 where
  pub root : trie.root < size
  pub nodes : trie.nodes + 8 * trie.count ≤ size
  pub free : trie.free + 2 ≤ size
  pub fits : size < 2 ^ 32

-- the node in a slot
abbrev pub node_at : Trie → List ℕ → ℕ → Node
node_at trie image slot = record {
  slot = slot;
  key = slice_index image (place_of trie slot) * 2 ^ 64 + slice_index image (place_of trie slot + 1);
  len = min (slice_index image (place_of trie slot + 2)) 128;
  marked = slice_index image (place_of trie slot + 3) == 1;
}

-- the node that the word at a place names
abbrev pub named_at : Trie → List ℕ → ℕ → Option ℕ
named_at trie image place = slot_of trie.count (slice_index image place)

-- the root
abbrev pub root_of : Trie → List ℕ → Option ℕ
root_of trie image = named_at trie image trie.root

-- the child of a node on a side
abbrev pub child_at : Trie → List ℕ → ℕ → Bool → Option ℕ
child_at trie image slot side = named_at trie image (link_of trie slot side)

-- the slot of a node
abbrev pub slot_in : Node → ℕ
slot_in node = node.slot

-- a node's prefix was inserted
abbrev pub is_marked : Node → Bool
is_marked node = node.marked
