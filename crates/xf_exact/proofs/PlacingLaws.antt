-- Where the walk stops that looks for a place.
use Rattle.std.proofs.Common.{◌≡◌, ℕ, true, false, not, List, ◌++◌, Option}
use Rattle.xf_types.specs.declared.policy.Policy.{Policy}
use Rattle.xf_types.specs.PolicyList.{comes_after}
use Rattle.xf_chain.specs.declared.family.Family.{Family}
use Rattle.xf_chain.specs.Families.{IsOf}
use Rattle.xf_chain.specs.Lists.{last_of}
use Rattle.xf_index.specs.Indexes.{picked_of, Indexed, AllAre}
use Rattle.xf_image.specs.declared.area.PolicyArea.{PolicyArea}
use Rattle.xf_image.specs.Policies.{ColumnsStand}
use Rattle.xf_image.proofs.Placed.{ranks, place_found}
use Rattle.xf_image.specs.Placing.{place_in}

pub place_is : (a : PolicyArea) (image : List ℕ) (family : Family) (key : Policy → Option ℕ) (p : Policy) (front back : List (ℕ × Policy))
    (chain : Option ℕ) → IsOf family chain → Indexed family image key (front ++ back) → ColumnsStand a image (front ++ back)
    → AllAre (λ q. not (comes_after q p)) true front → AllAre (λ q. not (comes_after q p)) false back
    → place_in a image p family chain ≡ last_of (picked_of key chain front)
place_is a image family key p front back chain n is s x y =
    place_found a image family key p front back chain n is (ranks a image p (front ++ back) s) x y
