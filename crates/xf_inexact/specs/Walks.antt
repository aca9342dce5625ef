-- The nodes at which the policies stand that a flow may meet, and the first of these policies.
use Rattle.std.specs.Prelude.{ℕ, ◌+◌, ◌*◌, ◌++◌, Bool, ◌||◌, ◌==◌, false, if◌then◌else◌, List, [], ◌∷◌, Option, None, Some, length}
use Rattle.xf_chain.specs.Chains.{slots_of}
use Rattle.xf_chain.specs.Families.{chain_at}
use Rattle.xf_exact.specs.declared.hit.Hit.{Hit}
use Rattle.xf_exact.specs.Hits.{better}
use Rattle.xf_exact.specs.Parts.{first_on}
use Rattle.xf_trie.specs.Keys.{key_of}
use Rattle.xf_trie.specs.Walks.{path_of, visit_of}
use Rattle.xf_types.specs.declared.network.Flow.{Flow}
use Rattle.xf_types.specs.declared.network.Ptype.{Ptype}
use Rattle.xf_types.specs.Address.{family_of}
use Rattle.xf_inexact.specs.declared.inexact.Inexact.{Inexact}
use Rattle.xf_inexact.specs.Keys.{bin_cost, bin_of}
use Rattle.xf_inexact.specs.Places.{below_of, chains_of}

-- the nodes of the trees below some nodes whose prefixes hold a key
abbrev pub all_below : Inexact → List ℕ → ℕ → List ℕ → List ℕ
all_below x image key [] = []
all_below x image key (node ∷ nodes) = visit_of (below_of x node) image key ++ all_below x image key nodes

-- the nodes of all sources at all destinations of a bin that hold the flow's addresses
abbrev pub visited_in : Inexact → List ℕ → Flow → Option ℕ → List ℕ
visited_in x image flow None = []
visited_in x image flow (Some bin) = all_below x image (key_of flow.src) (visit_of (below_of x bin) image (key_of flow.dst))

-- the bin of a flow whose addresses are of one family: no selector matches another one
abbrev pub flow_bin : Inexact → List ℕ → Ptype → Flow → Option ℕ
flow_bin x image ptype flow =
    if family_of flow.src == family_of flow.dst then bin_of x image ptype (family_of flow.dst) flow.dir flow.if_id else None

-- the same in its bin
abbrev pub visited : Inexact → List ℕ → Ptype → Flow → List ℕ
visited x image ptype flow = visited_in x image flow (flow_bin x image ptype flow)

-- a node is one of these
abbrev pub has : ℕ → List ℕ → Bool
has node [] = false
has node (other ∷ others) = (node == other) || has node others

-- a policy stands at one of these nodes
abbrev pub stands_in : List ℕ → Option ℕ → Bool
stands_in nodes None = false
stands_in nodes (Some node) = has node nodes

-- the first at a node that applies to the flow
abbrev pub first_at : Inexact → List ℕ → Ptype → Flow → ℕ → Option Hit
first_at x image ptype flow node = first_on x.area image (chains_of x) node ptype flow

-- the best of what stands at some nodes, and of a hit
abbrev pub best_at : Inexact → List ℕ → Ptype → Flow → Option Hit → List ℕ → Option Hit
best_at x image ptype flow best [] = best
best_at x image ptype flow best (node ∷ nodes) =
    best_at x image ptype flow (better best (first_at x image ptype flow node)) nodes

-- the best of what stands below a destination, and of a hit
unfoldable pub best_below : Inexact → List ℕ → Ptype → Flow → Option Hit → ℕ → Option Hit
best_below x image ptype flow best node = best_at x image ptype flow best (visit_of (below_of x node) image (key_of flow.src))

-- the best of what stands below some destinations, and of a hit
abbrev pub best_among : Inexact → List ℕ → Ptype → Flow → Option Hit → List ℕ → Option Hit
best_among x image ptype flow best [] = best
best_among x image ptype flow best (node ∷ nodes) = best_among x image ptype flow (best_below x image ptype flow best node) nodes

-- the best of what stands in a bin
unfoldable pub best_in : Inexact → List ℕ → Ptype → Flow → ℕ → Option Hit
best_in x image ptype flow bin = best_among x image ptype flow None (visit_of (below_of x bin) image (key_of flow.dst))

-- the best of what stands in the bin that there is
abbrev pub best_of : Inexact → List ℕ → Ptype → Flow → Option ℕ → Option Hit
best_of x image ptype flow None = None
best_of x image ptype flow (Some bin) = best_in x image ptype flow bin

-- the first of this part that applies to the flow
abbrev pub inexact_first : Inexact → List ℕ → Ptype → Flow → Option Hit
inexact_first x image ptype flow = best_at x image ptype flow None (visited x image ptype flow)

-- how many words the chains of some nodes load at most
abbrev pub chains_cost : Inexact → List ℕ → List ℕ → ℕ
chains_cost x image [] = 0
chains_cost x image (node ∷ nodes) = 4 + 16 * length (slots_of (chain_at (chains_of x) node) image) + chains_cost x image nodes

-- and a walk down the tree below a node
unfoldable pub walk_cost : Inexact → List ℕ → ℕ → ℕ → ℕ
walk_cost x image key node = 6 + 5 * length (path_of (below_of x node) image key)

-- and such walks from some nodes
abbrev pub walks_cost : Inexact → List ℕ → ℕ → List ℕ → ℕ
walks_cost x image key [] = 0
walks_cost x image key (node ∷ nodes) = walk_cost x image key node + walks_cost x image key nodes

-- the walk below a destination and the chains at its sources
unfoldable pub below_cost : Inexact → List ℕ → Flow → ℕ → ℕ
below_cost x image flow node =
    walk_cost x image (key_of flow.src) node + chains_cost x image (visit_of (below_of x node) image (key_of flow.src))

-- those of some destinations
abbrev pub among_cost : Inexact → List ℕ → Flow → List ℕ → ℕ
among_cost x image flow [] = 0
among_cost x image flow (node ∷ nodes) = below_cost x image flow node + among_cost x image flow nodes

-- the walk below a bin and those below its destinations
unfoldable pub in_cost : Inexact → List ℕ → Flow → ℕ → ℕ
in_cost x image flow bin =
    walk_cost x image (key_of flow.dst) bin + among_cost x image flow (visit_of (below_of x bin) image (key_of flow.dst))

-- those of the bin that there is
abbrev pub of_cost : Inexact → List ℕ → Flow → Option ℕ → ℕ
of_cost x image flow None = 0
of_cost x image flow (Some bin) = in_cost x image flow bin

-- the walks below the bin of a flow
abbrev pub bin_walks_cost : Inexact → List ℕ → Flow → Option ℕ → ℕ
bin_walks_cost x image flow None = 0
bin_walks_cost x image flow (Some bin) =
    walk_cost x image (key_of flow.dst) bin + walks_cost x image (key_of flow.src) (visit_of (below_of x bin) image (key_of flow.dst))

-- the search for the bin, the walks below it, and the chains at the nodes that are visited
abbrev pub first_cost : Inexact → List ℕ → Ptype → Flow → ℕ
first_cost x image ptype flow =
    bin_cost x image ptype (family_of flow.dst) flow.dir flow.if_id + bin_walks_cost x image flow (flow_bin x image ptype flow)
    + chains_cost x image (visited x image ptype flow)
