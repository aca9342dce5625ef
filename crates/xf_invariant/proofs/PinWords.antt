-- Pin words are set, cleared and loaded.
use Rattle.std.proofs.Common.{◌≡◌, ◌≢◌, ℕ, zero, suc, ◌+◌, ◌<◌, ◌≤◌, true, List, [], ◌∷◌, length, set, refl, sym, ap, ◌∙◌, subst, arith, ⊎_elim, ◌⊎◌, inl, inr}
use Rattle.std.specs.Prelude.{slice_index}
use mathlib.Core.Option.{some, some-injective, some-ne-none}
use lib.ListN.{get_elem?}
use Rattle.xf_views.specs.declared.view.View.{View}
use Rattle.xf_views.specs.Log.{Numbers, Mark}
use Rattle.xf_views.specs.Hands.{loaded_before, loaded_since}
use Rattle.xf_views.specs.Views.{view_after_pin, view_after_load_pin}
use Rattle.xf_views.specs.TurnPart.{TurnPart}
use Rattle.xf_views.proofs.Lists.{at_set, set_here, set_else}
use Rattle.xf_views.proofs.Seats.{each_set}
use Rattle.xf_invariant.specs.PinPart.{Has, Holds, IsInPin, PinPart}
use Rattle.xf_invariant.proofs.Held.{has_drop, no_shows}
use Rattle.xf_invariant.proofs.PinSeats.{owner_row}

module _ (policies slots : ℕ) (id_place : ℕ → ℕ) (most made : ℕ) (n : Numbers) (owners : List ℕ) (log : List Mark) (words settled pins : List ℕ) (views : List View)
    (a : TurnPart most made n owners log views) (c : PinPart policies slots id_place n.generation words settled pins views) (i : ℕ) (v : View) (at : get_elem? views i ≡ some v) (here : v.here ≡ true) where
  abbrev Part : ℕ → List ℕ → List View → Type 0
  Part g image seats = PinPart policies slots id_place g image settled pins seats

  -- LoadPin
  pub load_pin_keeps_pins : (k : ℕ) → v.hand.has_turn ≡ true → Part n.generation words (set views i (view_after_load_pin v k (slice_index pins k)))
  load_pin_keeps_pins k turn =
      let q = slice_index pins k in
      let w = view_after_load_pin v k q in
      owner_row policies slots id_place most made n owners log words settled pins views a c i v at here w refl refl refl refl refl turn words c.retired (λ j u e h fits. fits) (c.each i v at here)
      (λ j u e hu s p x old seen ok hold. ⊎_elim
      (λ (was_seen : Has (loaded_since s v.hand) (u.worker, p)). c.clear i j v u at here turn e hu s p x old was_seen ok hold)
      (λ (now_seen : (k, q) ≡ (u.worker, p)).
      let fu = c.each j u e hu in
      let who : k ≡ u.worker = ap (λ (z : ℕ × ℕ). z.0) now_seen in
      let what : q ≡ p = ap (λ (z : ℕ × ℕ). z.1) now_seen in
      let pin : u.hand.pin ≡ p = sym (read_at pins u.worker u.hand.pin fu.word) ∙ (ap (slice_index pins) (sym who) ∙ what) in
      found_clear u fu s x old (⊎_elim (λ (z : p ≡ 0). inl (pin ∙ z)) (λ (z : slice_index words s < p). inr (subst (λ m. slice_index words s < m) (sym pin) z)) ok) hold)
      (has_drop (loaded_before s v.hand.retired) v.hand.loaded (k, q) (u.worker, p) seen))
      (λ wr j u e hu s x is_fresh hold. c.fresh i j v u at here wr e hu s x is_fresh hold)
    where
      read_at : (l : List ℕ) (m x : ℕ) → get_elem? l m ≡ some x → slice_index l m ≡ x
      read_at [] m x e = absurd (some-ne-none x (sym e))
      read_at (y ∷ ys) zero x e = some-injective y x e
      read_at (y ∷ ys) (suc m) x e = read_at ys m x e

      -- a pin that is clear of a retired slot doesn't hold it
      found_clear : (u : View) → IsInPin policies slots id_place n.generation words settled pins u → (s x : ℕ) → 2 ≤ slice_index words s → (u.hand.pin ≡ 0) ⊎ (slice_index words s < u.hand.pin) → Holds policies slots id_place u.pins.shows s x → ⊥
      found_clear u fu s x old ok hold = ⊎_elim
          (λ (z : u.hand.pin ≡ 0). no_shows u.pins.shows hold.0 (fu.bare z) hold.1)
          (λ (later : slice_index words s < u.hand.pin). ⊎_elim
          (λ (one : slice_index words s ≡ 1). absurd (omega arith))
          (λ (ret : (2 ≤ slice_index words s) × (u.hand.pin ≤ slice_index words s)). let r = ret.1 in absurd (omega arith))
          (fu.holds s x hold).0)
          ok

  -- Pin and Unpin end all holds
  pub pin_keeps_pins : (q : ℕ) → q ≤ n.generation + 1 → v.worker < length pins → PinPart policies slots id_place n.generation words settled (set pins v.worker q) (set views i (view_after_pin v q))
  pin_keeps_pins q low long =
      let w = view_after_pin v q in
      let bare : (s x : ℕ) → Holds policies slots id_place [] s x → ⊥ = λ s x hold. some-ne-none hold.0 (sym hold.1.1) in
      record {
        retired = c.retired;
        each = each_set views i v w at (IsInPin policies slots id_place n.generation words settled (set pins v.worker q)) (λ j u apart e h. let fu = c.each j u e h in record {
          word = set_else pins v.worker u.worker q (λ same. apart (a.one_seat j i u v e at h here same)) ∙ fu.word;
          low = fu.low;
          bare = fu.bare;
          holds = fu.holds;
        }) record {
          word = set_here pins v.worker q long;
          low = low;
          bare = λ z. refl;
          holds = λ s x hold. absurd (bare s x hold);
        };
        clear = λ m b x u ea ha ta eb hb s r y old seen ok hold.
            let o = owner q m x ea ha ta in
            ⊎_elim
            (λ (p : (b ≡ i) × (w ≡ u)). bare s y (subst (λ (z : View). Holds policies slots id_place z.pins.shows s y) (sym p.1) hold))
            (λ (p : (b ≢ i) × (get_elem? views b ≡ some u)). c.clear o.0 b o.1 u o.2 o.3 o.4 p.1 hb s r y old (o.5 s (u.worker, r) seen) ok hold)
            (at_set views i b w u eb);
        fresh = λ m b x u ea ha wa eb hb s y is_fresh hold.
            ⊎_elim
            (λ (p : (b ≡ i) × (w ≡ u)). bare s y (subst (λ (z : View). Holds policies slots id_place z.pins.shows s y) (sym p.1) hold))
            (λ (p : (b ≢ i) × (get_elem? views b ≡ some u)). ⊎_elim
            (λ (t : (m ≡ i) × (w ≡ x)). c.fresh i b v u at here (ap (λ (z : View). z.hand.writing) t.1 ∙ wa) p.1 hb s y (subst (λ (z : View). Has z.pins.fresh s) (sym t.1) is_fresh) hold)
            (λ (t : (m ≢ i) × (get_elem? views m ≡ some x)). c.fresh m b x u t.1 ha wa p.1 hb s y is_fresh hold)
            (at_set views i m w x ea))
            (at_set views i b w u eb);
      }
    where
      owner : (q m : ℕ) (x : View) → get_elem? (set views i (view_after_pin v q)) m ≡ some x → x.here ≡ true → x.hand.has_turn ≡ true
          → (z : ℕ) × (o : View) × (get_elem? views z ≡ some o) × (o.here ≡ true) × (o.hand.has_turn ≡ true) × ((s : ℕ) (p : ℕ × ℕ) → Has (loaded_since s x.hand) p → Has (loaded_since s o.hand) p)
      owner q m x ea ha ta =
          let w = view_after_pin v q in
          ⊎_elim
          (λ (p : (m ≡ i) × (w ≡ x)). (i, v, at, here, ap (λ (z : View). z.hand.has_turn) p.1 ∙ ta, λ s r seen. subst (λ (z : View). Has (loaded_since s z.hand) r) (sym p.1) seen))
          (λ (p : (m ≢ i) × (get_elem? views m ≡ some x)). (m, x, p.1, ha, ta, λ s r seen. seen))
          (at_set views i m w x ea)
