-- The turn that comes and goes, and steps of which the image part does not speak.
use Rattle.std.proofs.Common.{◌≡◌, ℕ, true, false, true≢false, List, set, Option, refl, sym, ◌∙◌}
use mathlib.Core.Option.{some}
use lib.ListN.{get_elem?}
use Rattle.xf_types.specs.declared.state.Sa.{Sa}
use Rattle.xf_views.specs.declared.entry.Listed.{Listed}
use Rattle.xf_views.specs.declared.view.View.{View}
use Rattle.xf_views.specs.Log.{Numbers, Mark}
use Rattle.xf_views.specs.Views.{view_after_ticket, view_after_serving, view_after_leave, view_after_pin, view_after_load_pin, view_after_take, view_after_miss, view_after_give}
use Rattle.xf_views.specs.TurnPart.{TurnPart}
use Rattle.xf_invariant.specs.Meaning.{Told}
use Rattle.xf_invariant.specs.ImagePart.{IsInImage, ImagePart}
use Rattle.xf_invariant.proofs.ImageSeats.{quiet}

module _ (bucket_of : Sa → ℕ) (good : List ℕ → Told → Type 0) (base : List ℕ) (most made : ℕ) (n : Numbers) (owners : List ℕ) (log : List Mark) (words settled : List ℕ) (views : List View)
    (a : TurnPart most made n owners log views) (b : ImagePart bucket_of good base n.generation log words settled views) (i : ℕ) (v : View) (at : get_elem? views i ≡ some v) (here : v.here ≡ true) where
  abbrev Part : ℕ → List Mark → List ℕ → List ℕ → List View → Type 0
  Part = ImagePart bucket_of good base

  same_keeps : (w : View) → IsInImage n.generation log words settled w → Part n.generation log words settled (set views i w)
  same_keeps = quiet bucket_of good base most made n owners log words settled views a b i v at here

  pub serving_keeps_image : v.hand.has_turn ≡ false → Part n.generation log words settled (set views i (view_after_serving v n.serving words))
  serving_keeps_image off =
      let g = b.each i v at here in
      let f = a.each i v at here in
      same_keeps (view_after_serving v n.serving words) record {
        image = λ h. refl;
        settled = λ h. absurd (true≢false (sym (f.writes h).0 ∙ off));
        read = g.read;
        trial = g.trial;
      }

  pub leave_keeps_image : Part n.generation log words settled (set views i (view_after_leave v))
  leave_keeps_image = let g = b.each i v at here in same_keeps (view_after_leave v) record { image = λ h. absurd (true≢false (sym h)); settled = g.settled; read = g.read; trial = g.trial }

  -- rows of which the part doesn't speak
  pub ticket_keeps_image : (t : ℕ) → Part n.generation log words settled (set views i (view_after_ticket v t))
  ticket_keeps_image t = same_keeps (view_after_ticket v t) (b.each i v at here)

  pub pin_keeps_image : (q : ℕ) → Part n.generation log words settled (set views i (view_after_pin v q))
  pin_keeps_image q = same_keeps (view_after_pin v q) (b.each i v at here)

  pub load_pin_keeps_image : (k q : ℕ) → Part n.generation log words settled (set views i (view_after_load_pin v k q))
  load_pin_keeps_image k q = same_keeps (view_after_load_pin v k q) (b.each i v at here)

  pub take_keeps_image : (k : ℕ) (o : Option Listed) → Part n.generation log words settled (set views i (view_after_take v k o))
  take_keeps_image k o = same_keeps (view_after_take v k o) (b.each i v at here)

  pub give_keeps_image : (k : ℕ) → Part n.generation log words settled (set views i (view_after_give v k))
  give_keeps_image k = same_keeps (view_after_give v k) (b.each i v at here)

  pub miss_keeps_image : Part n.generation log words settled (set views i (view_after_miss v))
  miss_keeps_image = same_keeps (view_after_miss v) (b.each i v at here)
