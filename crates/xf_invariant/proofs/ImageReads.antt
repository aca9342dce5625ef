-- Reads: what is loaded agrees with the image until the generation moves.
use Rattle.std.proofs.Common.{◌≡◌, ◌≢◌, ℕ, true, false, List, [], ◌∷◌, ◌++◌, set, Some, Option, refl, sym, ap, ◌∙◌, subst, arith, ⊎_elim}
use Rattle.std.specs.Prelude.{slice_index}
use mathlib.Core.Option.{some}
use lib.ListN.{get_elem?}
use Rattle.xf_types.specs.declared.call.Receipt.{Receipt}
use Rattle.xf_types.specs.declared.state.Sa.{Sa}
use Rattle.xf_types.specs.Moves.{is_moving}
use Rattle.xf_views.specs.declared.entry.Entry.{Entry}
use Rattle.xf_views.specs.declared.view.View.{View}
use Rattle.xf_views.specs.declared.view.SlotTurn.{SlotTurn}
use Rattle.xf_views.specs.Log.{Numbers, Mark, mark, receipt, moves}
use Rattle.xf_views.specs.Views.{view_after_generation, view_after_load}
use Rattle.xf_views.specs.TurnPart.{TurnPart}
use Rattle.xf_views.proofs.Lists.{at_set}
use Rattle.xf_views.proofs.Late.{moves_settle}
use Rattle.xf_views.proofs.Seats.{each_set}
use Rattle.xf_invariant.specs.Meaning.{Told, Agrees, told_after_moves}
use Rattle.xf_invariant.specs.ImagePart.{IsInImage, ImagePart}
use Rattle.xf_invariant.proofs.ImageSeats.{quiet}

pub agrees-snoc : (image : List ℕ) (loads : List (ℕ × ℕ)) (p : ℕ × ℕ) → Agrees image loads → slice_index image p.0 ≡ p.1 → Agrees image (loads ++ p ∷ [])
agrees-snoc image [] p a e = (e, tt)
agrees-snoc image (q ∷ qs) p a e = (a.0, agrees-snoc image qs p a.1 e)

module _ (bucket_of : Sa → ℕ) (good : List ℕ → Told → Type 0) (base : List ℕ) (most made : ℕ) (n : Numbers) (owners : List ℕ) (log : List Mark) (words settled : List ℕ) (views : List View)
    (a : TurnPart most made n owners log views) (b : ImagePart bucket_of good base n.generation log words settled views) (i : ℕ) (v : View) (at : get_elem? views i ≡ some v) (here : v.here ≡ true) where
  abbrev Part : ℕ → List Mark → List ℕ → List ℕ → List View → Type 0
  Part = ImagePart bucket_of good base

  same_keeps : (w : View) → IsInImage n.generation log words settled w → Part n.generation log words settled (set views i w)
  same_keeps = quiet bucket_of good base most made n owners log words settled views a b i v at here

  pub load_keeps_image : (p : ℕ) → Part n.generation log words settled (set views i (view_after_load v p (slice_index words p)))
  load_keeps_image p = let g = b.each i v at here in same_keeps (view_after_load v p (slice_index words p)) record {
    image = g.image;
    settled = g.settled;
    read = λ m q. let r = g.read m q in (r.0, λ s t. agrees-snoc words v.image.loads (p, slice_index words p) (r.1 s t) refl);
    trial = g.trial;
  }

  pub look_keeps_image : (turns : List SlotTurn) → Part n.generation log words settled (set views i (view_after_generation v n.generation (moves log) [] turns))
  look_keeps_image turns = let g = b.each i v at here in same_keeps (view_after_generation v n.generation (moves log) [] turns) record {
    image = g.image;
    settled = g.settled;
    read = λ k q. let same : n.generation ≡ k = cc in (omega arith, λ s t. tt);
    trial = λ x k t q ev s y m o lt e'' is. absurd (cc);
  }

  -- the trial's receipt comes to stand
  pub settle_keeps_image : (x : ℕ) (s : Option ℕ) (e : Entry) (turns : List SlotTurn) → v.hand.trial ≡ Some x → is_moving e.reply ≡ false
      → let r = receipt x v.worker e in Part n.generation (set log x (mark v.worker s (Some r))) words settled (set views i (view_after_generation v n.generation (moves log) (r ∷ []) turns))
  settle_keeps_image x s e turns trial still =
      let g = b.each i v at here in
      let r = receipt x v.worker e in
      let w = view_after_generation v n.generation (moves log) (r ∷ []) turns in
      let log' = set log x (mark v.worker s (Some r)) in
      let t = ((a.each i v at here).trial x trial).0 in
      let all = moves_settle v.worker log x s r t still in
      record {
        stands = λ t' o. subst (λ (l : List Receipt). good settled (told_after_moves bucket_of t' l)) (sym all) (b.stands t' o);
        calm = b.calm;
        each = each_set views i v w at (IsInImage n.generation log' words settled)
            (λ j u apart e' h. let f = b.each j u e' h in record {
              image = f.image;
              settled = f.settled;
              read = f.read;
              trial = λ z k t' q ev s' y m o lt e'' is. ⊎_elim
                  (λ (p : (y ≡ x) × (mark v.worker s (Some r) ≡ m)). let two : Some r ≡ Some o = ap (λ (c : Mark). c.receipt) p.1 ∙ is in let same : r ≡ o = cc in ap (λ (c : Receipt). is_moving c.reply) (sym same) ∙ still)
                  (λ (p : (y ≢ x) × (get_elem? log y ≡ some m)). f.trial z k t' q ev s' y m o lt p.1 is)
                  (at_set log x y (mark v.worker s (Some r)) m e'');
            })
            record {
              image = g.image;
              settled = g.settled;
              read = λ k q. let same : n.generation ≡ k = cc in (omega arith, λ s' t'. tt);
              trial = λ z k t' q ev s' y m o lt e'' is. absurd (cc);
            };
      }
