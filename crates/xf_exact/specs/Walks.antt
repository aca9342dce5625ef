-- What the walk along a chain finds in any image.
use Rattle.std.specs.Prelude.{ℕ, List, Option, find}
use Rattle.xf_chain.specs.declared.chain.Chain.{Chain}
use Rattle.xf_chain.specs.Chains.{slots_of}
use Rattle.xf_image.specs.declared.area.PolicyArea.{PolicyArea}
use Rattle.xf_exact.specs.declared.query.Query.{Query}
use Rattle.xf_exact.specs.Queries.{meets_in}

-- the first slot of a chain whose policy is what is asked for
abbrev pub found_on : PolicyArea → List ℕ → Query → Chain → Option ℕ
found_on a image query chain = find (meets_in a image query) (slots_of chain image)
