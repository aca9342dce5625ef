-- The words after a policy came into the trees: its bin, its destination below that, its source below that, and its slot in the chain there.
use Rattle.std.specs.Prelude.{ℕ, ◌^◌, ◌<◌, List, None, Option, Some}
use Rattle.xf_chain.specs.Families.{put_in}
use Rattle.xf_exact.specs.Parts.{with_slot}
use Rattle.xf_trie.specs.Keys.{key_of}
use Rattle.xf_trie.specs.Rooms.{room_inserted, room_slot}
use Rattle.xf_types.specs.declared.policy.Policy.{Policy}
use Rattle.xf_types.specs.Address.{family_of}
use Rattle.xf_inexact.specs.declared.inexact.Inexact.{Inexact}
use Rattle.xf_inexact.specs.Keys.{bin_bucket, bin_key}
use Rattle.xf_inexact.specs.Places.{below_of, bins_of, chains_of}

-- the bucket of a policy's bin
abbrev pub bucket_of : Policy → ℕ
bucket_of p = bin_bucket p.spec.ptype (family_of p.spec.sel.dst.addr) p.spec.dir p.spec.if_id

-- its key there
abbrev pub bin_key_of : Policy → ℕ
bin_key_of p = bin_key p.spec.ptype (family_of p.spec.sel.dst.addr) p.spec.dir p.spec.if_id

-- The keys of a policy's three prefixes have 128 bits.
pub record KeysFit (p : Policy) : Type 0 where
  pub bin : bin_key_of p < 2 ^ 128
  pub destination : key_of p.spec.sel.dst.addr < 2 ^ 128
  pub source : key_of p.spec.sel.src.addr < 2 ^ 128

-- the words after a policy's bin was put into the tree of its bucket
unfoldable pub bin_grown : Inexact → List ℕ → Policy → List ℕ
bin_grown x image p = room_inserted (bins_of x (bucket_of p)) image (bin_key_of p) 128

-- the node of the bin then
unfoldable pub bin_put : Inexact → List ℕ → Policy → Option ℕ
bin_put x image p = room_slot (bins_of x (bucket_of p)) image (bin_key_of p) 128

-- the words after a prefix was put into the tree below a node, where there is one
unfoldable pub below_grown : Inexact → List ℕ → Option ℕ → ℕ → ℕ → List ℕ
below_grown x image None key len = image
below_grown x image (Some node) key len = room_inserted (below_of x node) image key len

-- the node of the prefix then
unfoldable pub below_put : Inexact → List ℕ → Option ℕ → ℕ → ℕ → Option ℕ
below_put x image None key len = None
below_put x image (Some node) key len = room_slot (below_of x node) image key len

-- the words after bin and destination
unfoldable pub destination_grown : Inexact → List ℕ → Policy → List ℕ
destination_grown x image p = below_grown x (bin_grown x image p) (bin_put x image p) (key_of p.spec.sel.dst.addr) p.spec.sel.dst.len

-- the node of the destination then
unfoldable pub destination_put : Inexact → List ℕ → Policy → Option ℕ
destination_put x image p = below_put x (bin_grown x image p) (bin_put x image p) (key_of p.spec.sel.dst.addr) p.spec.sel.dst.len

-- the words after bin, destination and source
unfoldable pub source_grown : Inexact → List ℕ → Policy → List ℕ
source_grown x image p = below_grown x (destination_grown x image p) (destination_put x image p) (key_of p.spec.sel.src.addr) p.spec.sel.src.len

-- the node of the source then, at which the policy stands
unfoldable pub source_put : Inexact → List ℕ → Policy → Option ℕ
source_put x image p = below_put x (destination_grown x image p) (destination_put x image p) (key_of p.spec.sel.src.addr) p.spec.sel.src.len

-- the words after a policy's slot was put into the chain there, at its place in the order
unfoldable pub policy_put : Inexact → List ℕ → ℕ → Policy → List ℕ
policy_put x image slot p = with_slot x.area (source_grown x image p) (chains_of x) (source_put x image p) slot p

-- the same at the front
unfoldable pub policy_first : Inexact → List ℕ → ℕ → Policy → List ℕ
policy_first x image slot p = put_in (chains_of x) (source_grown x image p) (source_put x image p) None slot
