-- What the walks find in a list of entries.
use Rattle.std.specs.Prelude.{◌≡◌, ℕ, ◌<◌, true, false, not, ◌&&◌, List, ◌∷◌, ◌++◌, Option, Some}
use Rattle.xf_types.specs.declared.policy.Policy.{Policy}
use Rattle.xf_types.specs.PolicyList.{comes_after}
use Rattle.xf_chain.specs.declared.family.Family.{Family}
use Rattle.xf_chain.specs.Families.{chain_at, IsOf}
use Rattle.xf_chain.specs.Lists.{last_of}
use Rattle.xf_index.specs.Indexes.{is_number, picked_of, Indexed, AllAre}
use Rattle.xf_index.specs.Finds.{found_in, slot_found}
use Rattle.xf_image.specs.declared.area.PolicyArea.{PolicyArea}
use Rattle.xf_image.specs.Placing.{place_in, before_in}
use Rattle.xf_image.specs.Policies.{ColumnsStand}
use Rattle.xf_exact.specs.declared.query.Query.{Query}
use Rattle.xf_exact.specs.Queries.{meets}
use Rattle.xf_exact.specs.Walks.{found_on}

pub record WalkLaws : Type 0 where
  -- the first entry that stands in the chain and is asked for
  pub found : (a : PolicyArea) (image : List ℕ) (query : Query) (family : Family) (key : Policy → Option ℕ) (number : ℕ) (entries : List (ℕ × Policy))
      → number < family.count → Indexed family image key entries → ColumnsStand a image entries
      → found_on a image query (chain_at family number) ≡ slot_found (found_in (λ p. is_number number (key p) && meets query p) entries)
  -- the first of all that is asked for, where each such entry stands in the chain
  pub own : (a : PolicyArea) (image : List ℕ) (query : Query) (family : Family) (key : Policy → Option ℕ) (number : ℕ) (entries : List (ℕ × Policy))
      → number < family.count → ((p : Policy) → meets query p ≡ true → key p ≡ Some number)
      → Indexed family image key entries → ColumnsStand a image entries
      → found_on a image query (chain_at family number) ≡ slot_found (found_in (meets query) entries)
  -- a policy goes after the last slot of those that aren't asked after it
  pub place : (a : PolicyArea) (image : List ℕ) (family : Family) (key : Policy → Option ℕ) (p : Policy) (front back : List (ℕ × Policy)) (number : Option ℕ)
      → IsOf family number → Indexed family image key (front ++ back) → ColumnsStand a image (front ++ back)
      → AllAre (λ q. not (comes_after q p)) true front → AllAre (λ q. not (comes_after q p)) false back
      → place_in a image p family number ≡ last_of (picked_of key number front)
  -- a listed policy stands after the last slot of those before it
  pub before : (image : List ℕ) (family : Family) (key : Policy → Option ℕ) (slot : ℕ) (p : Policy) (front back : List (ℕ × Policy)) (number : Option ℕ)
      → IsOf family number → key p ≡ number → Indexed family image key (front ++ ((slot, p) ∷ back))
      → before_in image slot family number ≡ last_of (picked_of key number front)
