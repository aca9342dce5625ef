-- So no more policies are asked than those.
use Rattle.std.proofs.Common.{◌≡◌, ℕ, ◌+◌, ◌*◌, ◌<◌, ◌≤◌, ◌^◌, ◌&&◌, not, Bool, true, false, if◌then◌else◌, List, [], ◌∷◌, Option, None, Some, filter, length, refl, arith}
use Rattle.xf_exact.specs.Parts.{is_in_exact}
use Rattle.xf_image.specs.Layout.{record_at, record_place}
use Rattle.xf_image.specs.Policies.{ColumnsStand}
use Rattle.xf_index.specs.Indexes.{Holds}
use Rattle.xf_records.proofs.PolicyLaws.{policy_fits}
use Rattle.xf_types.specs.declared.network.Flow.{Flow}
use Rattle.xf_types.specs.declared.network.Ptype.{Ptype}
use Rattle.xf_types.specs.declared.policy.Policy.{Policy}
use Rattle.xf_inexact.specs.declared.inexact.Inexact.{Inexact}
use Rattle.xf_inexact.specs.Bounds.{bins_met, flow_nodes, is_around, policies_around}
use Rattle.xf_inexact.specs.Holds.{HoldPart, HoldTrees, inexact_key}
use Rattle.xf_inexact.specs.Keys.{node_of}
use Rattle.xf_inexact.specs.Walks.{first_cost, flow_bin, has, stands_in, visited}
use Rattle.xf_inexact.proofs.Around.{visited_around}
use Rattle.xf_inexact.proofs.Levels.{flow_bin_below}
use Rattle.xf_inexact.proofs.Loads.{first_loads}
use Rattle.xf_inexact.proofs.Once.{at_once, one, stands_one, visited_once}

-- what this part takes and stands at a node that is visited
one_around : (nodes : List ℕ) (exact : Bool) (o : Option ℕ) (b : Bool) → ((n : ℕ) → o ≡ Some n → has n nodes ≡ true → b ≡ true)
    → one (stands_in nodes (if exact then None else o)) ≤ one (not exact && b)
one_around nodes true o b f = omega arith
one_around nodes false None b f = omega arith
one_around nodes false (Some n) b f = turn (has n nodes) b refl (f n refl)
  where
    turn : (v w : Bool) → has n nodes ≡ v → (v ≡ true → w ≡ true) → one v ≤ one w
    turn true true q g = omega arith
    turn true false q g = absurd (let e = g refl in cc)
    turn false w q g = omega arith

stand_around : (x : Inexact) (image : List ℕ) (h4 h6 : ℕ × ℕ) (ptype : Ptype) (flow : Flow) (es : List (ℕ × Policy)) → HoldTrees x image → flow.if_id < 2 ^ 32
    → Holds (λ slot. record_at x.area image slot) (λ p. Some p) es
    → length (filter (λ (e : ℕ × Policy). stands_in (visited x image ptype flow) (inexact_key x image h4 h6 e.1)) es) ≤ policies_around h4 h6 ptype flow es
stand_around x image h4 h6 ptype flow [] h j s = omega arith
stand_around x image h4 h6 ptype flow (e ∷ es) h j s =
    let i : e.1.spec.if_id < 2 ^ 32 = (policy_fits image (record_place x.area e.0) e.1 s.0).plain.if_id in
    let a = one_around (visited x image ptype flow) (is_in_exact h4 h6 e.1) (node_of x image e.1) (is_around ptype flow e.1)
    (λ n f v. visited_around x image ptype flow e.1 n h i j f v) in
    let b = stand_around x image h4 h6 ptype flow es h j s.1 in
    let c = stands_one e (filter (λ (e : ℕ × Policy). stands_in (visited x image ptype flow) (inexact_key x image h4 h6 e.1)) es)
    (stands_in (visited x image ptype flow) (inexact_key x image h4 h6 e.1)) in
    let d = stands_one e (filter (λ (e : ℕ × Policy). not (is_in_exact h4 h6 e.1) && is_around ptype flow e.1) es)
    (not (is_in_exact h4 h6 e.1) && is_around ptype flow e.1) in
    omega (arith, a, b, c, d)

pub first_around : (x : Inexact) (image : List ℕ) (h4 h6 : ℕ × ℕ) (ptype : Ptype) (flow : Flow) (es : List (ℕ × Policy)) (h : HoldPart x image h4 h6 es)
    → ColumnsStand x.area image es → flow.if_id < 2 ^ 32
    → first_cost x image ptype flow
    ≤ 12 + 16 * (bins_met x h.trees.trees ptype flow + flow_nodes x h.trees.trees flow (flow_bin x image ptype flow) + policies_around h4 h6 ptype flow es)
first_around x image h4 h6 ptype flow es h s j =
    let a = first_loads x image h4 h6 ptype flow es h in
    let b = at_once (inexact_key x image h4 h6) es (visited x image ptype flow)
    (λ n. visited_once x image flow (flow_bin x image ptype flow) n h.trees (flow_bin_below x image ptype flow)) in
    let c = stand_around x image h4 h6 ptype flow es h.trees j s.records in
    omega (arith, a, b, c)
