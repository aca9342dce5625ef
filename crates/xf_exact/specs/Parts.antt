-- The part of a policy list that is found by exact match, and what any part makes of its chains.
use Rattle.std.specs.Prelude.{◌≡◌, ℕ, Bool, List, Option}
use Rattle.xf_types.specs.declared.network.Flow.{Flow}
use Rattle.xf_types.specs.declared.network.Ptype.{Ptype}
use Rattle.xf_types.specs.declared.policy.Policy.{Policy}
use Rattle.xf_types.specs.ExactPart.{is_exact_at}
use Rattle.xf_chain.specs.declared.family.Family.{Family}
use Rattle.xf_chain.specs.Families.{chain_at, put_in, taken_out}
use Rattle.xf_image.specs.declared.area.PolicyArea.{PolicyArea}
use Rattle.xf_image.specs.ExactKeys.{lens_of, exact_key, flow_number}
use Rattle.xf_image.specs.Layout.{exact_of}
use Rattle.xf_image.specs.Placing.{place_in, before_in}
use Rattle.xf_image.specs.Readings.{hthresh4_in, hthresh6_in}
use Rattle.xf_exact.specs.declared.hit.Hit.{Hit}
use Rattle.xf_exact.specs.declared.query.Query.TheVariants.{Applies}
use Rattle.xf_exact.specs.Hits.{hit_at}
use Rattle.xf_exact.specs.Walks.{found_on}

-- the policy is found by exact match under these thresholds
abbrev pub is_in_exact : ℕ × ℕ → ℕ × ℕ → Policy → Bool
is_in_exact h4 h6 p = is_exact_at (lens_of h4 h6 p.spec.sel.src.addr) p.spec

-- the words tell these thresholds
pub record Tells (a : PolicyArea) (image : List ℕ) (h4 h6 : ℕ × ℕ) : Type 0 where
  pub v4 : hthresh4_in a image ≡ h4
  pub v6 : hthresh6_in a image ≡ h6

-- the chains of a policy and of a flow under the thresholds that the words tell
abbrev pub exact_key_in : PolicyArea → List ℕ → Policy → Option ℕ
exact_key_in a image p = exact_key (hthresh4_in a image) (hthresh6_in a image) p

abbrev pub flow_number_in : PolicyArea → List ℕ → Ptype → Flow → ℕ
flow_number_in a image ptype flow = flow_number (hthresh4_in a image) (hthresh6_in a image) ptype flow

-- the first of a chain that applies to the flow
abbrev pub first_on : PolicyArea → List ℕ → Family → ℕ → Ptype → Flow → Option Hit
first_on a image family number ptype flow = hit_at a image (found_on a image (Applies ptype flow) (chain_at family number))

-- the first of the exact part
abbrev pub exact_first : PolicyArea → List ℕ → Ptype → Flow → Option Hit
exact_first a image ptype flow = first_on a image (exact_of a) (flow_number_in a image ptype flow) ptype flow

-- the words once a policy is put into the chain with a number, where there is one, at its place in the order
abbrev pub with_slot : PolicyArea → List ℕ → Family → Option ℕ → ℕ → Policy → List ℕ
with_slot a image family number slot p = put_in family image number (place_in a image p family number) slot

-- the words once a slot is taken out of that chain
abbrev pub without_slot : List ℕ → Family → Option ℕ → ℕ → List ℕ
without_slot image family number slot = taken_out family image number (before_in image slot family number) slot
