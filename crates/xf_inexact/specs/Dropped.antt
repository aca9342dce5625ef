-- The words after a policy left: its slot its node's chain, and each prefix that no policy needs any more its tree.
use Rattle.std.specs.Prelude.{ℕ, ◌+◌, Bool, List, Option, None, Some, if◌then◌else◌, is_some, slice_index}
use Rattle.xf_exact.specs.Parts.{without_slot}
use Rattle.xf_trie.specs.declared.trie.Trie.{Trie}
use Rattle.xf_trie.specs.Keys.{key_of}
use Rattle.xf_trie.specs.Nodes.{slot_of}
use Rattle.xf_trie.specs.Removals.{removed}
use Rattle.xf_trie.specs.Walks.{find_of}
use Rattle.xf_types.specs.declared.policy.Policy.{Policy}
use Rattle.xf_types.specs.Address.{family_of}
use Rattle.xf_inexact.specs.declared.inexact.Inexact.{Inexact}
use Rattle.xf_inexact.specs.Keys.{bin_bucket, bin_key, bin_of}
use Rattle.xf_inexact.specs.Places.{below_of, below_root, bins_of, chains_of, count_of}

-- the word at a place names one of so many
abbrev pub names_one : List ℕ → ℕ → ℕ → Bool
names_one image place count = is_some (slot_of count (slice_index image place))

-- the words after a prefix left a tree, where the tree has it and the word at a place names none of so many
unfoldable pub dropped : Trie → List ℕ → ℕ → ℕ → ℕ → ℕ → List ℕ
dropped trie image key len place count =
    if names_one image place count then image
    else if is_some (find_of trie image key len) then removed trie image key len else image

-- the place of the head of a node's chain
abbrev pub head_place : Inexact → ℕ → ℕ
head_place x node = (chains_of x).heads + node

-- the words after a policy's slot left this source's chain, and the source where no other slot stands there
abbrev pub source_in : Inexact → List ℕ → ℕ → Policy → ℕ → Option ℕ → List ℕ
source_in x image slot p destination None = image
source_in x image slot p destination (Some source) =
    dropped (below_of x destination) (without_slot image (chains_of x) (Some source) slot) (key_of p.spec.sel.src.addr) p.spec.sel.src.len
    (head_place x source) x.area.slots

-- the words after a policy left what is below a destination
unfoldable pub dropped_source : Inexact → List ℕ → ℕ → Policy → ℕ → List ℕ
dropped_source x image slot p destination =
    source_in x image slot p destination (find_of (below_of x destination) image (key_of p.spec.sel.src.addr) p.spec.sel.src.len)

-- the words after it left what is below this destination, and the destination where nothing is below it then
abbrev pub destination_in : Inexact → List ℕ → ℕ → Policy → ℕ → Option ℕ → List ℕ
destination_in x image slot p bin None = image
destination_in x image slot p bin (Some destination) =
    dropped (below_of x bin) (dropped_source x image slot p destination) (key_of p.spec.sel.dst.addr) p.spec.sel.dst.len
    (below_root x destination) (count_of x)

-- the words after it left what is below a bin
unfoldable pub dropped_destination : Inexact → List ℕ → ℕ → Policy → ℕ → List ℕ
dropped_destination x image slot p bin =
    destination_in x image slot p bin (find_of (below_of x bin) image (key_of p.spec.sel.dst.addr) p.spec.sel.dst.len)

-- the tree and the key of its bin
abbrev pub bins_for : Inexact → Policy → Trie
bins_for x p = bins_of x (bin_bucket p.spec.ptype (family_of p.spec.sel.dst.addr) p.spec.dir p.spec.if_id)

abbrev pub key_for : Policy → ℕ
key_for p = bin_key p.spec.ptype (family_of p.spec.sel.dst.addr) p.spec.dir p.spec.if_id

-- the words after it left what is below this bin, and the bin where nothing is below it then
abbrev pub bin_in : Inexact → List ℕ → ℕ → Policy → Option ℕ → List ℕ
bin_in x image slot p None = image
bin_in x image slot p (Some bin) =
    dropped (bins_for x p) (dropped_destination x image slot p bin) (key_for p) 128 (below_root x bin) (count_of x)

-- the words after it left
unfoldable pub dropped_policy : Inexact → List ℕ → ℕ → Policy → List ℕ
dropped_policy x image slot p =
    bin_in x image slot p (bin_of x image p.spec.ptype (family_of p.spec.sel.dst.addr) p.spec.dir p.spec.if_id)
