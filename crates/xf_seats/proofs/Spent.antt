-- A seat that is there no more.
use Rattle.std.proofs.Common.{◌≡◌, ◌≢◌, ℕ, true, true≢false, List, set, sym, ap, ◌∙◌, ⊎_elim}
use mathlib.Core.Option.{some}
use lib.ListN.{get_elem?}
use Rattle.xf_views.specs.declared.view.View.{View}
use Rattle.xf_views.proofs.Lists.{at_set}
use Rattle.xf_views.proofs.Seats.{each_set}
use Rattle.xf_seats.specs.Seats.{nobody, taker, joined_views}

module _ (views : List View) (j : ℕ) where
  pub gone_at : (k : ℕ) (u : View) → get_elem? (set views j nobody) k ≡ some u → u.here ≡ true → (k ≢ j) × (get_elem? views k ≡ some u)
  gone_at k u e h = ⊎_elim
      (λ (p : (k ≡ j) × (nobody ≡ u)). absurd (true≢false (sym h ∙ sym (ap (λ (z : View). z.here) p.1))))
      (λ (p : (k ≢ j) × (get_elem? views k ≡ some u)). p)
      (at_set views j k nobody u e)

  pub gone_each : (P : View → Type 0) → ((k : ℕ) (u : View) → k ≢ j → get_elem? views k ≡ some u → u.here ≡ true → P u) → (k : ℕ) (u : View) → get_elem? (set views j nobody) k ≡ some u → u.here ≡ true → P u
  gone_each P others k u e h = let p = gone_at k u e h in others k u p.0 p.1 h

-- what holds of each seat and of the one that takes in another holds of all that are there then
pub joined_each : (views : List View) (i : ℕ) (v : View) (j : ℕ) (w : View) → get_elem? views i ≡ some v → (P : View → Type 0)
    → ((k : ℕ) (u : View) → k ≢ i → get_elem? views k ≡ some u → u.here ≡ true → P u) → P (taker v w)
    → (k : ℕ) (u : View) → get_elem? (joined_views views i v j w) k ≡ some u → u.here ≡ true → P u
joined_each views i v j w at P others mine =
    gone_each (set views i (taker v w)) j P (λ k u away e h. each_set views i v (taker v w) at P others mine k u e h)
