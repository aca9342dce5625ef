-- Openings: words are stored beside the settled image.
use Rattle.std.proofs.Common.{◌≡◌, ◌≢◌, ℕ, ◌+◌, Bool, true, false, true≢false, List, set, sym, ap, ◌∙◌, arith}
use Rattle.std.specs.Prelude.{if◌then◌else◌, slice_set}
use mathlib.Core.Option.{some}
use lib.ListN.{get_elem?}
use Rattle.xf_types.specs.declared.state.Sa.{Sa}
use Rattle.xf_views.specs.declared.view.View.{View}
use Rattle.xf_views.specs.Log.{Numbers, Mark}
use Rattle.xf_views.specs.Views.{view_after_begin, view_after_store, view_after_finish}
use Rattle.xf_views.specs.TurnPart.{TurnPart}
use Rattle.xf_views.proofs.Seats.{each_set, no_turn, even_now}
use Rattle.xf_invariant.specs.Meaning.{Told}
use Rattle.xf_invariant.specs.ImagePart.{IsInImage, ImagePart}

module _ (bucket_of : Sa → ℕ) (good : List ℕ → Told → Type 0) (base : List ℕ) (most made : ℕ) (n : Numbers) (owners : List ℕ) (log : List Mark) (words settled : List ℕ) (views : List View)
    (a : TurnPart most made n owners log views) (b : ImagePart bucket_of good base n.generation log words settled views) (i : ℕ) (v : View) (at : get_elem? views i ≡ some v) (here : v.here ≡ true) where
  abbrev Part : ℕ → List Mark → List ℕ → List ℕ → List View → Type 0
  Part = ImagePart bucket_of good base

  others_turn : (j : ℕ) (u : View) → j ≢ i → get_elem? views j ≡ some u → u.here ≡ true → v.hand.has_turn ≡ true → u.hand.has_turn ≡ true → ⊥
  others_turn = no_turn most made n owners log views a i v at here

  -- the generation rises
  risen : (u : View) (rest : List ℕ) → IsInImage n.generation log words settled u → (u.hand.writing ≡ true → rest ≡ (if u.hand.drawn then words else u.image.kept)) → IsInImage (n.generation + 1) log words rest u
  risen u rest g s = record {
    image = g.image;
    settled = s;
    read = λ k e. let p = (g.read k e).0 in (omega arith, λ h q. absurd (omega arith));
    trial = λ x k e f h q. let p = (g.read k f).0 in absurd (omega arith);
  }

  pub begin_keeps_image : v.hand.has_turn ≡ true → v.hand.writing ≡ false → Part (n.generation + 1) log words settled (set views i (view_after_begin v))
  begin_keeps_image turn not =
      let g = b.each i v at here in
      let now = even_now most made n owners log views a i v at here turn not in
      let w = view_after_begin v in
      let r = risen v settled g (λ h. absurd (true≢false (sym h ∙ not))) in
      record {
        stands = b.stands;
        calm = λ h. absurd (omega arith);
        each = each_set views i v w at (IsInImage (n.generation + 1) log words settled)
            (λ j u apart e h. risen u settled (b.each j u e h) (λ q. absurd (others_turn j u apart e h turn ((a.each j u e h).writes q).0)))
            record { image = g.image; settled = λ h. b.calm now ∙ sym (g.image turn); read = r.read; trial = r.trial };
      }

  pub finish_keeps_image : v.hand.writing ≡ true → v.hand.drawn ≡ true → Part (n.generation + 1) log words settled (set views i (view_after_finish v))
  finish_keeps_image is moved =
      let g = b.each i v at here in
      let k = (a.each i v at here).writes is in
      let odd = k.1 in
      let w = view_after_finish v in
      let r = risen v settled g g.settled in
      record {
        stands = b.stands;
        calm = λ h. g.settled is ∙ ap (λ (c : Bool). if c then words else v.image.kept) moved;
        each = each_set views i v w at (IsInImage (n.generation + 1) log words settled)
            (λ j u apart e h. risen u settled (b.each j u e h) (b.each j u e h).settled)
            record { image = g.image; settled = λ h. absurd (true≢false (sym h)); read = r.read; trial = r.trial };
      }

  pub store_keeps_image : (slots p x : ℕ) → v.hand.writing ≡ true → v.hand.drawn ≡ false → Part n.generation log (slice_set words p x) settled (set views i (view_after_store slots v p x))
  store_keeps_image slots p x is yet =
      let g = b.each i v at here in
      let k = (a.each i v at here).writes is in
      let odd = k.1 in
      let w = view_after_store slots v p x in
      record {
        stands = b.stands;
        calm = λ h. absurd (omega arith);
        each = each_set views i v w at (IsInImage n.generation log (slice_set words p x) settled)
            (λ j u apart e h. let f = b.each j u e h in record {
              image = λ t. absurd (others_turn j u apart e h k.0 t);
              settled = λ q. absurd (others_turn j u apart e h k.0 ((a.each j u e h).writes q).0);
              read = λ m q. ((f.read m q).0, λ s t. absurd (omega arith));
              trial = f.trial;
            })
            record {
              image = λ t. ap (λ (l : List ℕ). slice_set l p x) (g.image t);
              settled = λ q. g.settled q ∙ ap (λ (c : Bool). if c then words else v.image.kept) yet ∙ sym (ap (λ (c : Bool). if c then slice_set words p x else v.image.kept) yet);
              read = λ m q. ((g.read m q).0, λ s t. absurd (omega arith));
              trial = g.trial;
            };
      }
