-- A step of one seat that changes no pin word and no hold: of the owner of the turn, and of any seat.
use Rattle.std.proofs.Common.{◌≡◌, ◌≢◌, ℕ, ◌+◌, ◌<◌, ◌≤◌, true, List, set, refl, sym, ap, ◌∙◌, subst, arith, ⊎_elim, ◌⊎◌}
use Rattle.std.specs.Prelude.{slice_index}
use mathlib.Core.Option.{some}
use lib.ListN.{get_elem?}
use Rattle.xf_views.specs.declared.view.View.{View}
use Rattle.xf_views.specs.Log.{Numbers, Mark}
use Rattle.xf_views.specs.Hands.{loaded_since}
use Rattle.xf_views.specs.TurnPart.{TurnPart}
use Rattle.xf_views.proofs.Lists.{at_set}
use Rattle.xf_views.proofs.Seats.{each_set, no_turn}
use Rattle.xf_invariant.specs.PinPart.{Has, Holds, IsInPin, PinPart}

module _ (policies slots : ℕ) (id_place : ℕ → ℕ) (most made : ℕ) (n : Numbers) (owners : List ℕ) (log : List Mark) (words settled pins : List ℕ) (views : List View)
    (a : TurnPart most made n owners log views) (c : PinPart policies slots id_place n.generation words settled pins views) (i : ℕ) (v : View) (at : get_elem? views i ≡ some v) (here : v.here ≡ true) where
  abbrev Part : ℕ → List ℕ → List View → Type 0
  Part g image seats = PinPart policies slots id_place g image settled pins seats

  -- of the owner of the turn: no pin word and no hold changes, and image words are stored
  module _ (w : View) (h : w.here ≡ v.here) (k : w.worker ≡ v.worker) (sh : w.pins.shows ≡ v.pins.shows) (t : w.hand.has_turn ≡ v.hand.has_turn) (wr : w.hand.writing ≡ v.hand.writing) (turn : v.hand.has_turn ≡ true) where
    -- what a view was, with the same holds
    before : (j : ℕ) (u : View) → get_elem? (set views i w) j ≡ some u → u.here ≡ true → (z : View) × (get_elem? views j ≡ some z) × (z.here ≡ true) × (z.worker ≡ u.worker) × (z.pins.shows ≡ u.pins.shows)
    before j u e hu = ⊎_elim
        (λ (p : (j ≡ i) × (w ≡ u)). (v, subst (λ z. get_elem? views z ≡ some v) (sym p.0) at, here, sym k ∙ ap (λ (z : View). z.worker) p.1, sym sh ∙ ap (λ (z : View). z.pins.shows) p.1))
        (λ (p : (j ≢ i) × (get_elem? views j ≡ some u)). (u, p.1, hu, refl, refl))
        (at_set views i j w u e)

    held_before : (u z : View) → z.pins.shows ≡ u.pins.shows → (s x : ℕ) → Holds policies slots id_place u.pins.shows s x → Holds policies slots id_place z.pins.shows s x
    held_before u z e s x hold = (hold.0, subst (λ (l : List (List (ℕ × ℕ))). Has l hold.0) (sym e) hold.1, hold.2, hold.3, hold.4, hold.5)

    -- who has the turn is the actor
    is_actor : (j : ℕ) (x : View) → get_elem? (set views i w) j ≡ some x → x.here ≡ true → x.hand.has_turn ≡ true → w ≡ x
    is_actor j x e hx tx = ⊎_elim
        (λ (p : (j ≡ i) × (w ≡ x)). p.1)
        (λ (p : (j ≢ i) × (get_elem? views j ≡ some x)). absurd (no_turn most made n owners log views a i v at here j x p.0 p.1 hx turn tx))
        (at_set views i j w x e)

    writer_turns : (j : ℕ) (x : View) → get_elem? (set views i w) j ≡ some x → x.here ≡ true → x.hand.writing ≡ true → x.hand.has_turn ≡ true
    writer_turns j x e hx wx = ⊎_elim
        (λ (p : (j ≡ i) × (w ≡ x)). sym (ap (λ (z : View). z.hand.has_turn) p.1) ∙ (t ∙ turn))
        (λ (p : (j ≢ i) × (get_elem? views j ≡ some x)). ((a.each j x p.1 hx).writes wx).0)
        (at_set views i j w x e)

    pub owner_row : (words' : List ℕ)
        → ((s : ℕ) → s < slots → slice_index words' s ≤ n.generation + 1)
        → ((j : ℕ) (u : View) → get_elem? views j ≡ some u → u.here ≡ true → IsInPin policies slots id_place n.generation words settled pins u → IsInPin policies slots id_place n.generation words' settled pins u)
        → IsInPin policies slots id_place n.generation words' settled pins w
        → ((j : ℕ) (u : View) → get_elem? views j ≡ some u → u.here ≡ true → (s q x : ℕ) → 2 ≤ slice_index words' s → Has (loaded_since s w.hand) (u.worker, q) → (q ≡ 0) ⊎ (slice_index words' s < q) → Holds policies slots id_place u.pins.shows s x → ⊥)
        → (w.hand.writing ≡ true → (j : ℕ) (u : View) → get_elem? views j ≡ some u → u.here ≡ true → (s x : ℕ) → Has w.pins.fresh s → Holds policies slots id_place u.pins.shows s x → ⊥)
        → Part n.generation words' (set views i w)
    owner_row words' low others mine clears freshes = record {
      retired = low;
      each = each_set views i v w at (IsInPin policies slots id_place n.generation words' settled pins) (λ j u apart e hu. others j u e hu (c.each j u e hu)) mine;
      clear = λ m b x u ea ha ta eb hb s q y old seen ok hold.
          let z = before b u eb hb in let is = is_actor m x ea ha ta in
          clears b z.0 z.1 z.2 s q y old (subst (λ (o : View). Has (loaded_since s o.hand) (z.0.worker, q)) (sym is) (subst (λ o. Has (loaded_since s x.hand) (o, q)) (sym z.3) seen)) ok (held_before u z.0 z.4 s y hold);
      fresh = λ m b x u ea ha wa eb hb s y is_fresh hold.
          let z = before b u eb hb in let is = is_actor m x ea ha (writer_turns m x ea ha wa) in
          freshes (ap (λ (o : View). o.hand.writing) is ∙ wa) b z.0 z.1 z.2 s y (subst (λ (o : View). Has o.pins.fresh s) (sym is) is_fresh) (held_before u z.0 z.4 s y hold);
    }

  -- of any seat: it keeps what it held; the generation may rise, and the settled image become another one with the same ids of what
  -- is held. With the turn it has loaded no other pin words since a retirement than before, and an opening has listed no others
  pub seat_row : (g : ℕ) (rest : List ℕ) (w : View) → n.generation ≤ g
      → ((j : ℕ) (u : View) → get_elem? views j ≡ some u → u.here ≡ true → (s x : ℕ) → Holds policies slots id_place u.pins.shows s x → slice_index rest (id_place s) ≡ slice_index settled (id_place s))
      → w.here ≡ v.here → w.worker ≡ v.worker → w.hand.pin ≡ v.hand.pin → w.pins.shows ≡ v.pins.shows
      → (w.hand.has_turn ≡ true → (s : ℕ) (p : ℕ × ℕ) → Has (loaded_since s w.hand) p → (v.hand.has_turn ≡ true) × Has (loaded_since s v.hand) p)
      → (w.hand.writing ≡ true → (s : ℕ) → Has w.pins.fresh s → (v.hand.writing ≡ true) × Has v.pins.fresh s)
      → PinPart policies slots id_place g words rest pins (set views i w)
  seat_row g rest w up ids h k pin sh turn writes =
      let f = c.each i v at here in
      let mine = raised i v at here f in
      record {
        retired = λ s inside. let l = c.retired s inside in omega arith;
        each = each_set views i v w at (IsInPin policies slots id_place g words rest pins) (λ j u apart e hu. raised j u e hu (c.each j u e hu)) record {
          word = subst (λ z. get_elem? pins w.worker ≡ some z) (sym pin) (subst (λ z. get_elem? pins z ≡ some v.hand.pin) (sym k) mine.word);
          low = subst (λ z. z ≤ g + 1) (sym pin) mine.low;
          bare = λ z. sh ∙ mine.bare (sym pin ∙ z);
          holds = λ s x hold. subst (λ q. ((slice_index words s ≡ 1) ⊎ ((2 ≤ slice_index words s) × (q ≤ slice_index words s))) × (slice_index rest (id_place s) ≡ x)) (sym pin) (mine.holds s x (held v w (sym sh) s x hold));
        };
        clear = λ m b x u ea ha ta eb hb s r y old seen ok hold.
            let z = was b u eb hb in
            ⊎_elim
            (λ (t : (m ≡ i) × (w ≡ x)).
            let o = turn (ap (λ (y : View). y.hand.has_turn) t.1 ∙ ta) s (z.1.worker, r) (subst (λ (y : View). Has (loaded_since s y.hand) (z.1.worker, r)) (sym t.1) (subst (λ o. Has (loaded_since s x.hand) (o, r)) (sym z.4) seen)) in
            c.clear i z.0 v z.1 at here o.0 z.2 z.3 s r y old o.1 ok (held z.1 u z.5 s y hold))
            (λ (t : (m ≢ i) × (get_elem? views m ≡ some x)). c.clear m z.0 x z.1 t.1 ha ta z.2 z.3 s r y old (subst (λ o. Has (loaded_since s x.hand) (o, r)) (sym z.4) seen) ok (held z.1 u z.5 s y hold))
            (at_set views i m w x ea);
        fresh = λ m b x u ea ha wa eb hb s y is_fresh hold.
            let z = was b u eb hb in
            ⊎_elim
            (λ (t : (m ≡ i) × (w ≡ x)).
            let o = writes (ap (λ (y : View). y.hand.writing) t.1 ∙ wa) s (subst (λ (y : View). Has y.pins.fresh s) (sym t.1) is_fresh) in
            c.fresh i z.0 v z.1 at here o.0 z.2 z.3 s y o.1 (held z.1 u z.5 s y hold))
            (λ (t : (m ≢ i) × (get_elem? views m ≡ some x)). c.fresh m z.0 x z.1 t.1 ha wa z.2 z.3 s y is_fresh (held z.1 u z.5 s y hold))
            (at_set views i m w x ea);
      }
    where
      was : (j : ℕ) (u : View) → get_elem? (set views i w) j ≡ some u → u.here ≡ true → (l : ℕ) × (z : View) × (get_elem? views l ≡ some z) × (z.here ≡ true) × (z.worker ≡ u.worker) × (z.pins.shows ≡ u.pins.shows)
      was j u e hu = ⊎_elim
          (λ (p : (j ≡ i) × (w ≡ u)). (i, v, at, here, sym k ∙ ap (λ (z : View). z.worker) p.1, sym sh ∙ ap (λ (z : View). z.pins.shows) p.1))
          (λ (p : (j ≢ i) × (get_elem? views j ≡ some u)). (j, u, p.1, hu, refl, refl))
          (at_set views i j w u e)

      held : (z u : View) → z.pins.shows ≡ u.pins.shows → (s x : ℕ) → Holds policies slots id_place u.pins.shows s x → Holds policies slots id_place z.pins.shows s x
      held z u e s x hold = (hold.0, subst (λ (l : List (List (ℕ × ℕ))). Has l hold.0) (sym e) hold.1, hold.2, hold.3, hold.4, hold.5)

      raised : (j : ℕ) (u : View) → get_elem? views j ≡ some u → u.here ≡ true → IsInPin policies slots id_place n.generation words settled pins u → IsInPin policies slots id_place g words rest pins u
      raised j u e hu fu = record {
        word = fu.word;
        low = let l = fu.low in omega arith;
        bare = fu.bare;
        holds = λ s x hold. let o = fu.holds s x hold in (o.0, ids j u e hu s x hold ∙ o.1);
      }

  -- of a seat that changes neither the generation nor the settled image
  pub still_row : (w : View) → w.here ≡ v.here → w.worker ≡ v.worker → w.hand.pin ≡ v.hand.pin → w.pins.shows ≡ v.pins.shows
      → (w.hand.has_turn ≡ true → (s : ℕ) (p : ℕ × ℕ) → Has (loaded_since s w.hand) p → (v.hand.has_turn ≡ true) × Has (loaded_since s v.hand) p)
      → (w.hand.writing ≡ true → (s : ℕ) → Has w.pins.fresh s → (v.hand.writing ≡ true) × Has v.pins.fresh s)
      → Part n.generation words (set views i w)
  still_row w = seat_row n.generation settled w (omega arith) (λ j u e hu s x hold. refl)
