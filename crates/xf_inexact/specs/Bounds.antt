-- How many bins, nodes and policies a lookup may meet.
use Rattle.std.specs.Prelude.{ℕ, ◌+◌, ◌&&◌, not, ◌==◌, Bool, List, [], ◌∷◌, Option, None, Some, filter, length, map}
use Rattle.xf_exact.specs.Parts.{is_in_exact}
use Rattle.xf_index.specs.Indexes.{picked}
use Rattle.xf_trie.specs.Keys.{key_of}
use Rattle.xf_trie.specs.Nodes.{slot_in}
use Rattle.xf_trie.specs.Trees.{Tree, holds, items_of, nodes_of}
use Rattle.xf_types.specs.declared.network.Flow.{Flow}
use Rattle.xf_types.specs.declared.network.Ptype.{Ptype}
use Rattle.xf_types.specs.declared.policy.Policy.{Policy}
use Rattle.xf_types.specs.Address.{family_of}
use Rattle.xf_types.specs.Same.{same_dir, same_ptype}
use Rattle.xf_types.specs.Selection.{in_prefix}
use Rattle.xf_inexact.specs.declared.inexact.Inexact.{Inexact}
use Rattle.xf_inexact.specs.Keys.{bin_bucket}
use Rattle.xf_inexact.specs.Places.{below_root, bucket_root}

-- the bins in the bucket of a flow
abbrev pub bins_met : Inexact → (ℕ → Tree) → Ptype → Flow → ℕ
bins_met x trees ptype flow = length (items_of (trees (bucket_root x (bin_bucket ptype (family_of flow.dst) flow.dir flow.if_id))))

-- the nodes of a tree whose prefixes hold a key, branches too
abbrev pub nodes_met : Tree → ℕ → ℕ
nodes_met tree key = length (filter (holds key) (nodes_of tree))

-- those of the trees below some nodes
abbrev pub nodes_under : Inexact → (ℕ → Tree) → ℕ → List ℕ → ℕ
nodes_under x trees key [] = 0
nodes_under x trees key (node ∷ nodes) = nodes_met (trees (below_root x node)) key + nodes_under x trees key nodes

-- the destinations of a bin that hold the flow's
abbrev pub destinations : Inexact → (ℕ → Tree) → Flow → ℕ → List ℕ
destinations x trees flow bin = map slot_in (filter (holds (key_of flow.dst)) (items_of (trees (below_root x bin))))

-- the nodes of a bin's trees, of destinations and of sources below those that hold the flow's, that hold its addresses
abbrev pub flow_nodes : Inexact → (ℕ → Tree) → Flow → Option ℕ → ℕ
flow_nodes x trees flow None = 0
flow_nodes x trees flow (Some bin) =
    nodes_met (trees (below_root x bin)) (key_of flow.dst) + nodes_under x trees (key_of flow.src) (destinations x trees flow bin)

-- the policies that stand at some nodes
abbrev pub policies_at : (Policy → Option ℕ) → List (ℕ × Policy) → List ℕ → ℕ
policies_at key entries [] = 0
policies_at key entries (node ∷ nodes) = length (picked key node entries) + policies_at key entries nodes

-- a policy is of the bin of a flow, whose addresses are both in its prefixes
abbrev pub is_around : Ptype → Flow → Policy → Bool
is_around ptype flow p =
    same_dir p.spec.dir flow.dir && same_ptype p.spec.ptype ptype && (p.spec.if_id == flow.if_id)
    && in_prefix flow.src p.spec.sel.src && in_prefix flow.dst p.spec.sel.dst

-- how many of these there are that the exact part doesn't take
abbrev pub policies_around : ℕ × ℕ → ℕ × ℕ → Ptype → Flow → List (ℕ × Policy) → ℕ
policies_around h4 h6 ptype flow entries = length (filter (λ (e : ℕ × Policy). not (is_in_exact h4 h6 e.1) && is_around ptype flow e.1) entries)
