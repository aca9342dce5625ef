-- The free nodes in words.
use Rattle.std.specs.Prelude.{ℕ, ◌+◌, ◌-◌, ◌<◌, List, if◌then◌else◌, slice_index, slice_set, ◌==◌}
use Rattle.xf_cells.specs.Words.{next_count}
use Rattle.xf_trie.specs.declared.trie.Trie.{Trie}
use Rattle.xf_trie.specs.Nodes.{place_of}

-- the free node that comes first
abbrev pub head_of : Trie → List ℕ → ℕ
head_of trie image = slice_index image trie.free

-- how many nodes are taken
abbrev pub live_of : Trie → List ℕ → ℕ
live_of trie image = slice_index image (trie.free + 1)

-- how many nodes are free
abbrev pub spare_of : Trie → List ℕ → ℕ
spare_of trie image = trie.count - live_of trie image

-- the free node after another: the next one, where its word is 0
abbrev pub next_of : Trie → List ℕ → ℕ → ℕ
next_of trie image slot =
    if slice_index image (place_of trie slot + 6) == 0 then slot + 1 else slice_index image (place_of trie slot + 6) - 1

-- A node can be taken.
pub record CanTake (trie : Trie) (image : List ℕ) : Type 0 where
  pub head : head_of trie image < trie.count
  pub live : live_of trie image < trie.count

-- the words after a node was taken
unfoldable pub took : Trie → List ℕ → List ℕ
took trie image =
    slice_set (slice_set image trie.free (next_of trie image (head_of trie image))) (trie.free + 1) (live_of trie image + 1)

-- the words after a node was given back
unfoldable pub gave : Trie → List ℕ → ℕ → List ℕ
gave trie image slot =
    slice_set (slice_set (slice_set image (place_of trie slot + 6) (next_count (head_of trie image))) trie.free slot) (trie.free + 1) (live_of trie image - 1)
