-- What is asked of a policy, and what is asked of its words.
use Rattle.std.specs.Prelude.{ℕ, Bool, List}
use Rattle.xf_types.specs.declared.policy.Policy.{Policy}
use Rattle.xf_types.specs.PolicyList.{applies, is_under, has_index}
use Rattle.xf_asked.specs.Asked.{applies_at, is_under_at, has_index_at}
use Rattle.xf_image.specs.declared.area.PolicyArea.{PolicyArea}
use Rattle.xf_image.specs.Layout.{record_place}
use Rattle.xf_exact.specs.declared.query.Query.{Query}
use Rattle.xf_exact.specs.declared.query.Query.TheVariants.{Applies, Under, Index}

-- the policy is what is asked for
abbrev pub meets : Query → Policy → Bool
meets (Applies ptype flow) p = applies ptype flow p
meets (Under dir ptype sel mark if_id) p = is_under dir ptype sel mark if_id p.spec
meets (Index index) p = has_index index p

-- the policy at a place is, by its words
unfoldable pub meets_at : List ℕ → ℕ → Query → Bool
meets_at image at (Applies ptype flow) = applies_at image at ptype flow
meets_at image at (Under dir ptype sel mark if_id) = is_under_at image at dir ptype sel mark if_id
meets_at image at (Index index) = has_index_at image at index

-- the policy in a slot is, by its words
unfoldable pub meets_in : PolicyArea → List ℕ → Query → ℕ → Bool
meets_in a image query slot = meets_at image (record_place a slot) query
