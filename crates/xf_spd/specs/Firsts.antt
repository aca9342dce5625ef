-- The first policy that applies to a flow, of any image.
use Rattle.std.specs.Prelude.{ℕ, ◌+◌, nat_lt, if◌then◌else◌, List, length, Option, None, Some}
use Rattle.xf_types.specs.declared.network.Flow.{Flow}
use Rattle.xf_types.specs.declared.network.Ptype.{Ptype}
use Rattle.xf_types.specs.declared.network.Ptype.TheVariants.{Main, Sub}
use Rattle.xf_types.specs.declared.policy.Policy.{Policy}
use Rattle.xf_types.specs.Machine.{Shown}
use Rattle.xf_types.specs.PolicyList.{or_else}
use Rattle.xf_index.specs.Indexes.{picked}
use Rattle.xf_image.specs.ExactKeys.{exact_key, flow_number}
use Rattle.xf_image.specs.declared.area.PolicyArea.{PolicyArea}
use Rattle.xf_image.specs.Layout.{record_at}
use Rattle.xf_exact.specs.declared.hit.Hit.{Hit}
use Rattle.xf_exact.specs.Hits.{better}
use Rattle.xf_exact.specs.Parts.{exact_first}
use Rattle.xf_trie.specs.Trees.{Tree}
use Rattle.xf_inexact.specs.Bounds.{bins_met, flow_nodes, policies_around}
use Rattle.xf_inexact.specs.Walks.{flow_bin, inexact_first}
use Rattle.xf_inexact.specs.Whole.{trees_of}

-- the policy in the slot of a hit
abbrev pub hit_policy : PolicyArea → List ℕ → Option Hit → Option Policy
hit_policy a image None = None
hit_policy a image (Some hit) = if nat_lt hit.slot a.slots then record_at a image hit.slot else None

-- the better of the two parts' first ones
abbrev pub first_in : PolicyArea → List ℕ → Ptype → Flow → Option Policy
first_in a image ptype flow = hit_policy a image (better (exact_first a image ptype flow) (inexact_first (trees_of a) image ptype flow))

-- that of ptype sub, else that of ptype main
abbrev pub first_policy_in : PolicyArea → List ℕ → Flow → Option Policy
first_policy_in a image flow = or_else (first_in a image Sub flow) (first_in a image Main flow)

-- how many policies stand in the chain of exact match that is walked for a flow
abbrev pub exact_met : Shown → List (ℕ × Policy) → Ptype → Flow → ℕ
exact_met s entries ptype flow = length (picked (exact_key s.hthresh4 s.hthresh6) (flow_number s.hthresh4 s.hthresh6 ptype flow) entries)

-- the bins in the flow's bucket, the nodes of its bin that hold its addresses, and the policies of this bin whose prefixes do
abbrev pub trees_met : PolicyArea → List ℕ → Shown → (ℕ → Tree) → List (ℕ × Policy) → Ptype → Flow → ℕ
trees_met a image s trees entries ptype flow =
    bins_met (trees_of a) trees ptype flow + flow_nodes (trees_of a) trees flow (flow_bin (trees_of a) image ptype flow)
    + policies_around s.hthresh4 s.hthresh6 ptype flow entries

-- all that a lookup of one ptype meets
abbrev pub all_met : PolicyArea → List ℕ → Shown → (ℕ → Tree) → List (ℕ × Policy) → Ptype → Flow → ℕ
all_met a image s trees entries ptype flow = exact_met s entries ptype flow + trees_met a image s trees entries ptype flow
