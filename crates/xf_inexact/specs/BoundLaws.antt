-- The bound on the loads of a lookup.
use Rattle.std.specs.Prelude.{ℕ, ◌+◌, ◌*◌, ◌^◌, ◌<◌, ◌≤◌, List, Option, filter, length}
use Rattle.xf_image.specs.Policies.{ColumnsStand}
use Rattle.xf_types.specs.declared.network.Flow.{Flow}
use Rattle.xf_types.specs.declared.network.Ptype.{Ptype}
use Rattle.xf_types.specs.declared.policy.Policy.{Policy}
use Rattle.xf_inexact.specs.declared.inexact.Inexact.{Inexact}
use Rattle.xf_inexact.specs.Bounds.{bins_met, flow_nodes, policies_around, policies_at}
use Rattle.xf_inexact.specs.Holds.{HoldPart, HoldTrees, inexact_key}
use Rattle.xf_inexact.specs.Walks.{first_cost, flow_bin, stands_in, visited}

pub record BoundLaws (x : Inexact) : Type 0 where
  -- it grows with the bins of the flow's bucket, the nodes of its bin that hold its addresses, and the policies at those that are visited
  pub loads : (image : List ℕ) (h4 h6 : ℕ × ℕ) (ptype : Ptype) (flow : Flow) (entries : List (ℕ × Policy)) (h : HoldPart x image h4 h6 entries)
      → first_cost x image ptype flow
      ≤ 12 + 16 * (bins_met x h.trees.trees ptype flow + flow_nodes x h.trees.trees flow (flow_bin x image ptype flow)
      + policies_at (inexact_key x image h4 h6) entries (visited x image ptype flow))
  -- that is, with those of the flow's bin whose prefixes hold its addresses, where these stand in the words
  pub around : (image : List ℕ) (h4 h6 : ℕ × ℕ) (ptype : Ptype) (flow : Flow) (entries : List (ℕ × Policy)) (h : HoldPart x image h4 h6 entries)
      → ColumnsStand x.area image entries → flow.if_id < 2 ^ 32
      → first_cost x image ptype flow
      ≤ 12 + 16 * (bins_met x h.trees.trees ptype flow + flow_nodes x h.trees.trees flow (flow_bin x image ptype flow)
      + policies_around h4 h6 ptype flow entries)
  -- and these are counted once each
  pub once : (image : List ℕ) (ptype : Ptype) (flow : Flow) (key : Policy → Option ℕ) (entries : List (ℕ × Policy)) → HoldTrees x image
      → policies_at key entries (visited x image ptype flow)
      ≤ length (filter (λ (e : ℕ × Policy). stands_in (visited x image ptype flow) (key e.1)) entries)
