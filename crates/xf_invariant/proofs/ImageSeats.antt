-- A step that changes nothing of which the image part speaks but what its own seat knows.
use Rattle.std.proofs.Common.{◌≡◌, ℕ, true, List, set}
use mathlib.Core.Option.{some}
use lib.ListN.{get_elem?}
use Rattle.xf_types.specs.declared.state.Sa.{Sa}
use Rattle.xf_views.specs.declared.view.View.{View}
use Rattle.xf_views.specs.Log.{Numbers, Mark}
use Rattle.xf_views.specs.TurnPart.{TurnPart}
use Rattle.xf_views.proofs.Seats.{each_set}
use Rattle.xf_invariant.specs.Meaning.{Told}
use Rattle.xf_invariant.specs.ImagePart.{IsInImage, ImagePart}

module _ (bucket_of : Sa → ℕ) (good : List ℕ → Told → Type 0) (base : List ℕ) (most made : ℕ) (n : Numbers) (owners : List ℕ) (log : List Mark) (words settled : List ℕ) (views : List View)
    (a : TurnPart most made n owners log views) (b : ImagePart bucket_of good base n.generation log words settled views) (i : ℕ) (v : View) (at : get_elem? views i ≡ some v) (here : v.here ≡ true) where
  abbrev Part : ℕ → List Mark → List ℕ → List ℕ → List View → Type 0
  Part = ImagePart bucket_of good base

  -- a step that changes neither the log, nor the image, nor the generation
  pub quiet : (w : View) → IsInImage n.generation log words settled w → Part n.generation log words settled (set views i w)
  quiet w fits = record {
    stands = b.stands;
    calm = b.calm;
    each = each_set views i v w at (IsInImage n.generation log words settled) (λ j u apart e h. b.each j u e h) fits;
  }
