-- What the walk finds.
use Rattle.std.proofs.Common.{◌≡◌, ℕ, ◌<◌, true, ◌&&◌, List, [], ◌∷◌, Option, Some, rules}
use Rattle.xf_types.specs.declared.policy.Policy.{Policy}
use Rattle.xf_chain.specs.declared.family.Family.{Family}
use Rattle.xf_chain.specs.Families.{chain_at}
use Rattle.xf_index.specs.Indexes.{is_number, Indexed, Holds}
use Rattle.xf_index.specs.Finds.{found_in, slot_found}
use Rattle.xf_index.proofs.Finds.{found_walked, found_own_walked}
use Rattle.xf_records.specs.Policies.{policy_at}
use Rattle.xf_asked.proofs.AskedLaws.{policy_asks, policy_under, policy_index}
use Rattle.xf_image.specs.declared.area.PolicyArea.{PolicyArea}
use Rattle.xf_image.specs.Layout.{record_place, record_at}
use Rattle.xf_image.specs.Policies.{ColumnsStand}
use Rattle.xf_exact.specs.declared.query.Query.{Query}
use Rattle.xf_exact.specs.declared.query.Query.TheVariants.{Applies, Under, Index}
use Rattle.xf_exact.specs.Queries.{meets, meets_at, meets_in}
use Rattle.xf_exact.specs.Walks.{found_on}

-- what is asked of the words is what is asked of the policy
asked_is : (image : List ℕ) (at : ℕ) (query : Query) (p : Policy) → policy_at image at ≡ Some p → meets_at image at query ≡ meets query p
unfolding meets_at
asked_is image at (Applies ptype flow) p e = policy_asks image at ptype flow p e
asked_is image at (Under dir ptype sel mark if_id) p e = policy_under image at dir ptype sel mark if_id p e
asked_is image at (Index index) p e = policy_index image at index p e

meets_is : (a : PolicyArea) (image : List ℕ) (query : Query) (slot : ℕ) (p : Policy) → record_at a image slot ≡ Some p
    → meets_in a image query slot ≡ meets query p
unfolding meets_in
meets_is a image query slot p e = asked_is image (record_place a slot) query p e

-- each slot answers as its policy does
asked_hold : (a : PolicyArea) (image : List ℕ) (query : Query) (es : List (ℕ × Policy)) → Holds (λ slot. record_at a image slot) (λ p. Some p) es
    → Holds (meets_in a image query) (meets query) es
asked_hold a image query [] h = search rules
asked_hold a image query (e ∷ es) h = (meets_is a image query e.0 e.1 h.0, asked_hold a image query es h.1)

pub found_is : (a : PolicyArea) (image : List ℕ) (query : Query) (family : Family) (key : Policy → Option ℕ) (number : ℕ)
    (es : List (ℕ × Policy)) → number < family.count → Indexed family image key es → ColumnsStand a image es
    → found_on a image query (chain_at family number) ≡ slot_found (found_in (λ p. is_number number (key p) && meets query p) es)
found_is a image query family key number es below is s =
    found_walked family image key number (meets_in a image query) (meets query) es below (asked_hold a image query es s.records) is

-- where the chain has all that is asked for
pub own_found_is : (a : PolicyArea) (image : List ℕ) (query : Query) (family : Family) (key : Policy → Option ℕ) (number : ℕ)
    (es : List (ℕ × Policy)) → number < family.count → ((p : Policy) → meets query p ≡ true → key p ≡ Some number)
    → Indexed family image key es → ColumnsStand a image es
    → found_on a image query (chain_at family number) ≡ slot_found (found_in (meets query) es)
own_found_is a image query family key number es below own is s =
    found_own_walked family image key number (meets_in a image query) (meets query) es below (asked_hold a image query es s.records) own is
