-- What is visited for a flow, and what is the first there.
use Rattle.std.specs.Prelude.{◌≡◌, ℕ, true, not, ◌&&◌, List, Some}
use Rattle.xf_exact.specs.Hits.{better, first_of}
use Rattle.xf_exact.specs.Parts.{Tells, exact_first, is_in_exact}
use Rattle.xf_image.specs.ExactKeys.{exact_key}
use Rattle.xf_image.specs.Layout.{exact_of}
use Rattle.xf_image.specs.Policies.{ColumnsStand}
use Rattle.xf_index.specs.Indexes.{Indexed, records_in}
use Rattle.xf_types.specs.declared.network.Flow.{Flow}
use Rattle.xf_types.specs.declared.network.Ptype.{Ptype}
use Rattle.xf_types.specs.declared.policy.Policy.{Policy}
use Rattle.xf_types.specs.PolicyList.{IsPolicyOrder, applies}
use Rattle.xf_inexact.specs.declared.inexact.Inexact.{Inexact}
use Rattle.xf_inexact.specs.Holds.{HoldPart, HoldTrees, policy_node}
use Rattle.xf_inexact.specs.Keys.{node_of}
use Rattle.xf_inexact.specs.Walks.{has, inexact_first, visited}

pub record FirstLaws (x : Inexact) : Type 0 where
  -- the node of a policy is told by the trees alone
  pub node : (image : List ℕ) (p : Policy) (h : HoldTrees x image) → node_of x image p ≡ policy_node x h.trees p
  -- where a policy that applies to a flow stands at a node, the flow's walks visit the node
  pub there : (image : List ℕ) (ptype : Ptype) (flow : Flow) (p : Policy) (node : ℕ) → HoldTrees x image
      → applies ptype flow p ≡ true → node_of x image p ≡ Some node → has node (visited x image ptype flow) ≡ true
  -- the best of what stands at the nodes that are visited is the first policy of this part that applies
  pub first : (image : List ℕ) (h4 h6 : ℕ × ℕ) (ptype : Ptype) (flow : Flow) (entries : List (ℕ × Policy)) → HoldPart x image h4 h6 entries
      → ColumnsStand x.area image entries → IsPolicyOrder (records_in entries)
      → inexact_first x image ptype flow ≡ first_of (λ p. not (is_in_exact h4 h6 p) && applies ptype flow p) entries
  -- and the better of it and of the exact part's first is the first of the list
  pub both : (image : List ℕ) (h4 h6 : ℕ × ℕ) (ptype : Ptype) (flow : Flow) (entries : List (ℕ × Policy)) → Tells x.area image h4 h6
      → Indexed (exact_of x.area) image (exact_key h4 h6) entries → HoldPart x image h4 h6 entries
      → ColumnsStand x.area image entries → IsPolicyOrder (records_in entries)
      → better (exact_first x.area image ptype flow) (inexact_first x image ptype flow) ≡ first_of (applies ptype flow) entries
