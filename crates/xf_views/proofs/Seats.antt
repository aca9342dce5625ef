-- The seats after a step of one of them: what holds of the others still does.
use Rattle.std.proofs.Common.{◌≡◌, ◌≢◌, ℕ, ◌%◌, true, false, true≢false, List, set, Some, None, Option, sym, ap, ◌∙◌, subst, arith, eqb-true, ⊎_elim}
use mathlib.Core.Option.{some, some-injective}
use mathlib.Core.Logic.{dite}
use native.Mathlib.Decide.{ℕ_discrete}
use lib.ListN.{get_elem?}
use Rattle.xf_views.specs.declared.view.View.{View}
use Rattle.xf_views.specs.Log.{Numbers, Mark}
use Rattle.xf_views.specs.Hands.{is_served}
use Rattle.xf_views.specs.TurnPart.{IsInTurn, SomeSeat, TurnPart}
use Rattle.xf_views.proofs.Lists.{at_set, set_here, set_else, at_below}

pub is_served-true : (o : Option ℕ) (s : ℕ) → is_served o s ≡ true → o ≡ Some s
is_served-true None s e = absurd (true≢false (sym e))
is_served-true (Some t) s e = ap Some (eqb-true t s e)

-- the views after a step of one seat
module _ (views : List View) (i : ℕ) (v w : View) (at : get_elem? views i ≡ some v) where
  pub each_set : (P : View → Type 0) → ((j : ℕ) (u : View) → j ≢ i → get_elem? views j ≡ some u → u.here ≡ true → P u) → P w
      → (j : ℕ) (u : View) → get_elem? (set views i w) j ≡ some u → u.here ≡ true → P u
  each_set P others mine j u e h = ⊎_elim
      (λ (x : (j ≡ i) × (w ≡ u)). subst P x.1 mine)
      (λ (x : (j ≢ i) × (get_elem? views j ≡ some u)). others j u x.0 x.1 h)
      (at_set views i j w u e)

  pub one_seat_set : v.here ≡ true → w.worker ≡ v.worker
      → ((i j : ℕ) (v w : View) → get_elem? views i ≡ some v → get_elem? views j ≡ some w → v.here ≡ true → w.here ≡ true → v.worker ≡ w.worker → i ≡ j)
      → (j k : ℕ) (x y : View) → get_elem? (set views i w) j ≡ some x → get_elem? (set views i w) k ≡ some y → x.here ≡ true → y.here ≡ true → x.worker ≡ y.worker → j ≡ k
  one_seat_set here same one j k x y ex ey hx hy e = ⊎_elim
      (λ (p : (j ≡ i) × (w ≡ x)). ⊎_elim
      (λ (q : (k ≡ i) × (w ≡ y)). p.0 ∙ sym q.0)
      (λ (q : (k ≢ i) × (get_elem? views k ≡ some y)). p.0 ∙ one i k v y at q.1 here hy (sym same ∙ (ap (λ (u : View). u.worker) p.1 ∙ e)))
      (at_set views i k w y ey))
      (λ (p : (j ≢ i) × (get_elem? views j ≡ some x)). ⊎_elim
      (λ (q : (k ≡ i) × (w ≡ y)). one j i x v p.1 at hx here (e ∙ (sym (ap (λ (u : View). u.worker) q.1) ∙ same)) ∙ sym q.0)
      (λ (q : (k ≢ i) × (get_elem? views k ≡ some y)). one j k x y p.1 q.1 hx hy e)
      (at_set views i k w y ey))
      (at_set views i j w x ex)

  pub some_set : (P : View → Type 0) → w.here ≡ true → (P v → P w) → SomeSeat views P → SomeSeat (set views i w) P
  some_set P here keeps o = dite (ℕ_discrete o.0 i)
      (λ e. (i, w, set_here views i w (at_below views i v at), here, keeps (subst P (some-injective o.1 v (sym o.2 ∙ (ap (get_elem? views) e ∙ at))) o.4)))
      (λ ne. (o.0, o.1, set_else views i o.0 w ne ∙ o.2, o.3, o.4))

-- two seats with the turn are one
pub turn_alone : (made : ℕ) (n : Numbers) (owners : List ℕ) (log : List Mark) (v u : View) → IsInTurn made n owners log v → IsInTurn made n owners log u → v.hand.has_turn ≡ true → u.hand.has_turn ≡ true → v.worker ≡ u.worker
turn_alone made n owners log v u f g tv tu = some-injective v.worker u.worker (sym (f.ticket n.serving (f.turn tv)).1 ∙ (g.ticket n.serving (g.turn tu)).1)

module _ (most made : ℕ) (n : Numbers) (owners : List ℕ) (log : List Mark) (views : List View) (a : TurnPart most made n owners log views) (i : ℕ) (v : View) (at : get_elem? views i ≡ some v) (here : v.here ≡ true) where
  pub other_worker : (j : ℕ) (u : View) → j ≢ i → get_elem? views j ≡ some u → u.here ≡ true → v.worker ≢ u.worker
  other_worker j u apart e h same = apart (sym (a.one_seat i j v u at e here h same))

  pub no_turn : (j : ℕ) (u : View) → j ≢ i → get_elem? views j ≡ some u → u.here ≡ true → v.hand.has_turn ≡ true → u.hand.has_turn ≡ true → ⊥
  no_turn j u apart e h tv tu = other_worker j u apart e h (turn_alone made n owners log v u (a.each i v at here) (a.each j u e h) tv tu)

  pub even_now : v.hand.has_turn ≡ true → v.hand.writing ≡ false → n.generation % 2 ≡ 0
  even_now turn not = dite (ℕ_discrete (n.generation % 2) 0) (λ e. e)
      (λ ne. let o = a.odd (omega arith) in absurd (dite (ℕ_discrete o.0 i)
      (λ e. let same : v ≡ o.1 = some-injective v o.1 (sym at ∙ (ap (get_elem? views) (sym e) ∙ o.2)) in true≢false (sym o.4 ∙ (sym (ap (λ (u : View). u.hand.writing) same) ∙ not)))
      (λ apart. no_turn o.0 o.1 apart o.2 o.3 turn ((a.each o.0 o.1 o.2 o.3).writes o.4).0)))
