-- An image is young where the words are small that tell its numbers and its ids.
use Rattle.std.proofs.Common.{◌≡◌, ℕ, ◌+◌, ◌<◌, ◌≤◌, ◌^◌, ◌↔◌, List, arith, sym, subst, slice_index}
use Rattle.xf_types.specs.Standing.{Standing}
use Rattle.xf_rows.specs.declared.layout.Layout.{Layout}
use Rattle.xf_meaning.specs.Places.{layout_of}
use Rattle.xf_opening.specs.Images.{ImageView, IsYoung, AreYoung, image_in}

-- the words that tell them are small
abbrev pub HasYoung : Layout → List ℕ → Type 0
HasYoung layout words = AreYoung words (layout.policies.base + 1) (layout.states.base + 1) (layout.clock + 1) (layout.clock + 2)

young_is : (p s : ℕ) (words : List ℕ) (homes : List Standing) → HasYoung (layout_of p s) words ↔ IsYoung (image_in p s words homes)
young_is p s words homes = (there, back)
  where
    there : HasYoung (layout_of p s) words → IsYoung (image_in p s words homes)
    there y = record {
      numbers = let a : slice_index words ((layout_of p s).policies.base + 1) < 2 ^ 62 = y.0 in omega (arith, a);
      sids = let a : slice_index words ((layout_of p s).states.base + 1) < 2 ^ 62 = y.1 in omega (arith, a);
      of_policies = y.2;
      of_buckets = y.3;
    }

    back : IsYoung (image_in p s words homes) → HasYoung (layout_of p s) words
    back y = (
      let a : slice_index words ((layout_of p s).policies.base + 1) + 1 ≤ 2 ^ 62 = y.numbers in omega (arith, a),
      let a : slice_index words ((layout_of p s).states.base + 1) + 1 ≤ 2 ^ 62 = y.sids in omega (arith, a),
      y.of_policies,
      y.of_buckets,
    )

-- of an image that is read at the places of its layout
pub read_young : (p s : ℕ) (words read : List ℕ) (homes : List Standing) (layout : Layout) (i : ImageView) → layout ≡ layout_of p s → read ≡ words
    → image_in p s words homes ≡ i → HasYoung layout read ↔ IsYoung i
read_young p s words read homes layout i places same is =
    subst (λ (x : ImageView). HasYoung layout read ↔ IsYoung x) is
    (subst (λ (l : Layout). HasYoung l read ↔ IsYoung (image_in p s words homes)) (sym places)
    (subst (λ (ws : List ℕ). HasYoung (layout_of p s) ws ↔ IsYoung (image_in p s words homes)) (sym same) (young_is p s words homes)))
