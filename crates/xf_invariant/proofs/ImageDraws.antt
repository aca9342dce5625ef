-- Draws: a move settles the image.
use Rattle.std.proofs.Common.{◌≡◌, ◌≢◌, ℕ, ◌<◌, Bool, true, false, true≢false, List, [], ◌∷◌, ◌++◌, length, set, Some, None, Option, refl, sym, ap, ◌∙◌, subst, arith, ⊎_elim}
use Rattle.std.specs.Prelude.{if◌then◌else◌}
use mathlib.Core.Option.{some}
use lib.ListN.{get_elem?}
use Rattle.xf_types.specs.declared.call.Receipt.{Receipt}
use Rattle.xf_types.specs.declared.state.Sa.{Sa}
use Rattle.xf_types.specs.Moves.{is_moving}
use Rattle.xf_views.specs.declared.entry.Entry.{Entry}
use Rattle.xf_views.specs.declared.view.View.{View}
use Rattle.xf_views.specs.declared.view.SlotTurn.{SlotTurn}
use Rattle.xf_views.specs.Log.{Numbers, Mark, mark, receipt, moves}
use Rattle.xf_views.specs.Views.{view_after_draw, view_after_trial}
use Rattle.xf_views.specs.TurnPart.{TurnPart}
use Rattle.xf_views.proofs.Lists.{at_snoc, at_end}
use Rattle.xf_views.proofs.Logs.{moves-move, moves-still, moves-blank}
use Rattle.xf_views.proofs.Seats.{each_set, no_turn}
use Rattle.xf_invariant.specs.Meaning.{Told, told_after, told_after_moves, Opens}
use Rattle.xf_invariant.specs.ImagePart.{IsInImage, ImagePart}
use Rattle.xf_invariant.proofs.Folds.{told-append}

module _ (bucket_of : Sa → ℕ) (good : List ℕ → Told → Type 0) (base : List ℕ) (most made : ℕ) (n : Numbers) (owners : List ℕ) (log : List Mark) (words settled : List ℕ) (views : List View)
    (a : TurnPart most made n owners log views) (b : ImagePart bucket_of good base n.generation log words settled views) (i : ℕ) (v : View) (at : get_elem? views i ≡ some v) (here : v.here ≡ true) where
  abbrev Part : ℕ → List Mark → List ℕ → List ℕ → List View → Type 0
  Part = ImagePart bucket_of good base

  others_turn : (j : ℕ) (u : View) → j ≢ i → get_elem? views j ≡ some u → u.here ≡ true → v.hand.has_turn ≡ true → u.hand.has_turn ≡ true → ⊥
  others_turn = no_turn most made n owners log views a i v at here

  -- a mark more, whose receipt stands at once and doesn't move: by way 2, and by way 4
  pub still_keeps_image : (s : Option ℕ) (e : Entry) (turns : List SlotTurn) → v.hand.writing ≡ false → v.hand.trial ≡ None → is_moving e.reply ≡ false
      → let r = receipt n.draw v.worker e in Part n.generation (log ++ mark v.worker s (Some r) ∷ []) words settled (set views i (view_after_draw v false (moves log) r turns))
  still_keeps_image s e turns not none still =
      let g = b.each i v at here in
      let r = receipt n.draw v.worker e in
      let w = view_after_draw v false (moves log) r turns in
      let all = moves-still log v.worker s r still in
      let log' = log ++ mark v.worker s (Some r) ∷ [] in
      record {
        stands = λ t o. subst (λ (l : List Receipt). good settled (told_after_moves bucket_of t l)) (sym all) (b.stands t o);
        calm = b.calm;
        each = each_set views i v w at (IsInImage n.generation log' words settled)
            (λ j u apart e' h. let f = b.each j u e' h in record {
              image = f.image;
              settled = f.settled;
              read = f.read;
              trial = λ x k t q ev s' y m o lt e'' is. ⊎_elim
                  (λ (z : get_elem? log y ≡ some m). f.trial x k t q ev s' y m o lt z is)
                  (λ (z : mark v.worker s (Some r) ≡ m). let two : Some r ≡ Some o = ap (λ (y : Mark). y.receipt) z ∙ is in let same : r ≡ o = cc in ap (λ (y : Receipt). is_moving y.reply) (sym same) ∙ still)
                  (at_snoc log (mark v.worker s (Some r)) m y e'');
            })
            record { image = g.image; settled = λ q. absurd (true≢false (sym q ∙ not)); read = g.read; trial = λ x k t q ev s' y m o lt e'' is. absurd (cc) };
      }

  pub trial_keeps_image : v.hand.trial ≡ None → Part n.generation (log ++ mark v.worker None None ∷ []) words settled (set views i (view_after_trial v n.draw (moves log)))
  trial_keeps_image none =
      let g = b.each i v at here in
      let w = view_after_trial v n.draw (moves log) in
      let all = moves-blank log v.worker in
      let len = a.draws in
      let log' = log ++ mark v.worker None None ∷ [] in
      record {
        stands = λ t o. subst (λ (l : List Receipt). good settled (told_after_moves bucket_of t l)) (sym all) (b.stands t o);
        calm = b.calm;
        each = each_set views i v w at (IsInImage n.generation log' words settled)
            (λ j u apart e' h. let f = b.each j u e' h in record {
              image = f.image;
              settled = f.settled;
              read = f.read;
              trial = λ x k t q ev s y m o lt e'' is. ⊎_elim
                  (λ (z : get_elem? log y ≡ some m). f.trial x k t q ev s y m o lt z is)
                  (λ (z : mark v.worker None None ≡ m). let two : None ≡ Some o = ap (λ (y : Mark). y.receipt) z ∙ is in absurd (cc))
                  (at_snoc log (mark v.worker None None) m y e'');
            })
            record {
              image = g.image;
              settled = g.settled;
              read = g.read;
              trial = λ x k t q ev s y m o lt e'' is. let same : n.draw ≡ x = cc in ⊎_elim
                  (λ (z : (get_elem? log y ≡ some m) × (y < length log)). let h = z.1 in absurd (omega arith))
                  (λ (z : (mark v.worker None None ≡ m) × (y ≡ length log)). let two : None ≡ Some o = ap (λ (y : Mark). y.receipt) z.0 ∙ is in absurd (cc))
                  (at_end log (mark v.worker None None) m y e'');
            };
      }

  -- way 1: what the start leads to by the moves, and the receipt's move, is what the image stands for
  pub move_keeps_image : (s : Option ℕ) (e : Entry) (turns : List SlotTurn) → v.hand.has_turn ≡ true → v.hand.writing ≡ true → v.hand.drawn ≡ false → v.hand.trial ≡ None → is_moving e.reply ≡ true
      → let r = receipt n.draw v.worker e in
      ((t : Told) → Opens good base t → good v.image.kept (told_after_moves bucket_of t (moves log)) → good v.image.words (told_after bucket_of (told_after_moves bucket_of t (moves log)) r))
      → Part n.generation (log ++ mark v.worker s (Some r) ∷ []) words words (set views i (view_after_draw v true (moves log ++ r ∷ []) r turns))
  move_keeps_image s e turns turn is yet none moving honest =
      let g = b.each i v at here in
      let k = (a.each i v at here).writes is in
      let odd = k.1 in
      let r = receipt n.draw v.worker e in
      let w = view_after_draw v true (moves log ++ r ∷ []) r turns in
      let all = moves-move log v.worker s r moving in
      let log' = log ++ mark v.worker s (Some r) ∷ [] in
      let kept : settled ≡ v.image.kept = g.settled is ∙ ap (λ (c : Bool). if c then words else v.image.kept) yet in
      let next : (t : Told) → told_after_moves bucket_of t (moves log') ≡ told_after bucket_of (told_after_moves bucket_of t (moves log)) r = λ t. ap (told_after_moves bucket_of t) all ∙ told-append bucket_of t (moves log) r in
      record {
        stands = λ t o. subst (good words) (sym (next t)) (subst (λ (l : List ℕ). good l (told_after bucket_of (told_after_moves bucket_of t (moves log)) r)) (g.image turn)
            (honest t o (subst (λ (l : List ℕ). good l (told_after_moves bucket_of t (moves log))) kept (b.stands t o))));
        calm = λ q. refl;
        each = each_set views i v w at (IsInImage n.generation log' words words)
            (λ j u apart e' h'. let f = b.each j u e' h' in record {
              image = f.image;
              settled = λ q. absurd (others_turn j u apart e' h' turn ((a.each j u e' h').writes q).0);
              read = f.read;
              trial = λ x m t q ev s' y u' o lt e'' is'. absurd (omega arith);
            })
            record { image = g.image; settled = λ q. refl; read = g.read; trial = λ x m t q ev s' y u' o lt e'' is'. absurd (cc) };
      }
