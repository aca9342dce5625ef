-- The words after a removal.
use Rattle.std.specs.Prelude.{ℕ, zero, suc, ◌+◌, List, None, Option, Some, false, if◌then◌else◌, slice_index, slice_set, true, ◌==◌}
use Rattle.xf_trie.specs.declared.trie.Trie.{Trie}
use Rattle.xf_trie.specs.Insertions.{below_of, marked_at}
use Rattle.xf_trie.specs.Nodes.{child_at, named_at, place_of}
use Rattle.xf_trie.specs.Spares.{gave}

-- the words after the mark of this node, where there is one, was taken away
abbrev pub unmark_in : Trie → List ℕ → Option ℕ → List ℕ
unmark_in trie image None = image
unmark_in trie image (Some slot) = marked_at trie image slot false

-- the words after the mark of the node at a link was taken away
unfoldable pub unmarked : Trie → List ℕ → ℕ → List ℕ
unmarked trie image place = unmark_in trie image (named_at trie image place)

-- the words after a node without one of its children gave its place to the other
abbrev pub tidy_node : Trie → List ℕ → ℕ → ℕ → Option ℕ → Option ℕ → List ℕ
tidy_node trie image place slot None other = gave trie (slice_set image place (slice_index image (place_of trie slot + 5))) slot
tidy_node trie image place slot (Some child) None = gave trie (slice_set image place (slice_index image (place_of trie slot + 4))) slot
tidy_node trie image place slot (Some child) (Some other) = image

-- the words after this node at a link, where there is one, was taken out where it isn't needed
abbrev pub tidy_in : Trie → List ℕ → ℕ → Option ℕ → List ℕ
tidy_in trie image place None = image
tidy_in trie image place (Some slot) =
    if slice_index image (place_of trie slot + 3) == 1 then image
    else tidy_node trie image place slot (child_at trie image slot false) (child_at trie image slot true)

-- the words after the node at a link was taken out where it isn't needed
unfoldable pub tidied : Trie → List ℕ → ℕ → List ℕ
tidied trie image place = tidy_in trie image place (named_at trie image place)

-- the words after a prefix below a link was taken out
abbrev pub removed_from : Trie → List ℕ → ℕ → ℕ → ℕ → ℕ → List ℕ
removed_from trie image key len zero place = image
removed_from trie image key len (suc left) place =
    elim (below_of trie image key len place) [
      | None ↦ tidied trie (unmarked trie image place) place
      | Some next ↦ tidied trie (removed_from trie image key len left next) place
    ]

-- the words after a removal
unfoldable pub removed : Trie → List ℕ → ℕ → ℕ → List ℕ
removed trie image key len = removed_from trie image key len 129 trie.root
