-- A read ends: what it showed is held while the seat is pinned.
use Rattle.std.proofs.Common.{◌≡◌, ◌≢◌, ℕ, zero, suc, ◌%◌, Bool, true, false, List, [], ◌∷◌, ◌++◌, set, refl, sym, ap, ◌∙◌, subst, arith, ⊎_elim, ◌⊎◌, inl, inr}
use Rattle.std.specs.Prelude.{slice_index}
use mathlib.Core.Option.{some}
use lib.ListN.{get_elem?}
use Rattle.xf_types.specs.declared.call.Receipt.{Receipt}
use Rattle.xf_views.specs.declared.view.View.{View}
use Rattle.xf_views.specs.declared.view.SlotTurn.{SlotTurn}
use Rattle.xf_views.specs.Log.{Numbers, Mark}
use Rattle.xf_views.specs.Hands.{is_same, loaded_since}
use Rattle.xf_views.specs.Views.{shows_after, view_after_generation}
use Rattle.xf_views.specs.TurnPart.{TurnPart}
use Rattle.xf_views.proofs.Lists.{at_set}
use Rattle.xf_views.proofs.Seats.{each_set}
use Rattle.xf_invariant.specs.Meaning.{Agrees}
use Rattle.xf_invariant.specs.PinPart.{Has, Holds, IsInPin, PinPart}
use Rattle.xf_invariant.proofs.Held.{has_snoc, agrees_at}
use Rattle.xf_invariant.proofs.PinSeats.{still_row}

module _ (policies slots : ℕ) (id_place : ℕ → ℕ) (most made : ℕ) (n : Numbers) (owners : List ℕ) (log : List Mark) (words settled pins : List ℕ) (views : List View)
    (a : TurnPart most made n owners log views) (c : PinPart policies slots id_place n.generation words settled pins views) (i : ℕ) (v : View) (at : get_elem? views i ≡ some v) (here : v.here ≡ true) where
  abbrev Part : ℕ → List ℕ → List View → Type 0
  Part g image seats = PinPart policies slots id_place g image settled pins seats

  -- LoadGeneration, at the end of a read that was the same, on a pinned seat
  see_keeps_pins : (all more : List Receipt) (turns : List SlotTurn) (q : ℕ) → n.generation % 2 ≡ 0 → settled ≡ words → Agrees words v.image.loads → v.hand.pin ≡ suc q → is_same v.hand.began n.generation ≡ true
      → Part n.generation words (set views i (view_after_generation v n.generation all more turns))
  see_keeps_pins all more turns q even calm agrees pinned same =
      let g = n.generation in
      let f = c.each i v at here in
      let l = v.image.loads in
      let w = view_after_generation v g all more turns in
      let sw : w.pins.shows ≡ v.pins.shows ++ l ∷ [] = ap (λ (b : Bool). shows_after b v.hand.pin l v.pins.shows) same ∙ ap (λ (p : ℕ). shows_after true p l v.pins.shows) pinned in
      let split : (s x : ℕ) → Holds policies slots id_place w.pins.shows s x → Holds policies slots id_place v.pins.shows s x ⊎ ((slice_index words s ≡ 1) × (slice_index words (id_place s) ≡ x)) = λ s x hold. ⊎_elim
      (λ (old : Has v.pins.shows hold.0). inl (hold.0, old, hold.2, hold.3, hold.4, hold.5))
      (λ (is : l ≡ hold.0). inr (agrees_at words l (s, 1) agrees (subst (λ (m : List (ℕ × ℕ)). Has m (s, 1)) (sym is) hold.2), agrees_at words l (id_place s, x) agrees (subst (λ (m : List (ℕ × ℕ)). Has m (id_place s, x)) (sym is) hold.3)))
      (has_snoc v.pins.shows l hold.0 (subst (λ (m : List (List (ℕ × ℕ))). Has m hold.0) sw hold.1)) in
      record {
        retired = c.retired;
        each = each_set views i v w at (IsInPin policies slots id_place g words settled pins) (λ j u apart e h. c.each j u e h) record {
          word = f.word;
          low = f.low;
          bare = λ z. absurd (let p = pinned in omega arith);
          holds = λ s x hold. ⊎_elim
              (λ (old : Holds policies slots id_place v.pins.shows s x). f.holds s x old)
              (λ (new : (slice_index words s ≡ 1) × (slice_index words (id_place s) ≡ x)). (inl new.0, ap (λ (m : List ℕ). slice_index m (id_place s)) calm ∙ new.1))
              (split s x hold);
        };
        clear = λ m b x u ea ha ta eb hb s r y old seen ok hold.
            let o = owner all more turns m x ea ha ta in
            ⊎_elim
            (λ (p : (b ≡ i) × (w ≡ u)). ⊎_elim
            (λ (before : Holds policies slots id_place v.pins.shows s y). c.clear o.0 i o.1 v o.2 o.3 o.4 at here s r y old (o.5 s u.worker r v.worker seen (sym (ap (λ (z : View). z.worker) p.1))) ok before)
            (λ (new : (slice_index words s ≡ 1) × (slice_index words (id_place s) ≡ y)). let z = new.0 in absurd (omega arith))
            (split s y (subst (λ (z : View). Holds policies slots id_place z.pins.shows s y) (sym p.1) hold)))
            (λ (p : (b ≢ i) × (get_elem? views b ≡ some u)). c.clear o.0 b o.1 u o.2 o.3 o.4 p.1 hb s r y old (o.5 s u.worker r u.worker seen refl) ok hold)
            (at_set views i b w u eb);
        fresh = λ m b x u ea ha wa eb hb s y is_fresh hold. absurd (⊎_elim
            (λ (p : (m ≡ i) × (w ≡ x)). let o = ((a.each i v at here).writes (ap (λ (z : View). z.hand.writing) p.1 ∙ wa)).1 in omega arith)
            (λ (p : (m ≢ i) × (get_elem? views m ≡ some x)). let o = ((a.each m x p.1 ha).writes wa).1 in omega arith)
            (at_set views i m w x ea));
      }
    where
      owner : (all more : List Receipt) (turns : List SlotTurn) (m : ℕ) (x : View) → get_elem? (set views i (view_after_generation v n.generation all more turns)) m ≡ some x → x.here ≡ true → x.hand.has_turn ≡ true
          → (z : ℕ) × (o : View) × (get_elem? views z ≡ some o) × (o.here ≡ true) × (o.hand.has_turn ≡ true) × ((s m q n : ℕ) → Has (loaded_since s x.hand) (m, q) → m ≡ n → Has (loaded_since s o.hand) (n, q))
      owner all more turns m x ea ha ta =
          let w = view_after_generation v n.generation all more turns in
          ⊎_elim
          (λ (p : (m ≡ i) × (w ≡ x)). (i, v, at, here, ap (λ (z : View). z.hand.has_turn) p.1 ∙ ta, λ s m q n seen e. subst (λ k. Has (loaded_since s v.hand) (k, q)) e (subst (λ (z : View). Has (loaded_since s z.hand) (m, q)) (sym p.1) seen)))
          (λ (p : (m ≢ i) × (get_elem? views m ≡ some x)). (m, x, p.1, ha, ta, λ s m q n seen e. subst (λ k. Has (loaded_since s x.hand) (k, q)) e seen))
          (at_set views i m w x ea)

  -- whatever the read was: one that ends the same agrees with the image, which is settled
  pub generation_keeps_pins : (all more : List Receipt) (turns : List SlotTurn)
      → (is_same v.hand.began n.generation ≡ true → (n.generation % 2 ≡ 0) × (settled ≡ words) × Agrees words v.image.loads)
      → Part n.generation words (set views i (view_after_generation v n.generation all more turns))
  generation_keeps_pins all more turns tells = by_same (is_same v.hand.began n.generation) refl
    where
      unseen : (view_after_generation v n.generation all more turns).pins.shows ≡ v.pins.shows → Part n.generation words (set views i (view_after_generation v n.generation all more turns))
      unseen same = still_row policies slots id_place most made n owners log words settled pins views a c i v at here (view_after_generation v n.generation all more turns) refl refl refl same (λ h s p seen. (h, seen)) (λ h s seen. (h, seen))

      by_pin : (q : ℕ) → v.hand.pin ≡ q → is_same v.hand.began n.generation ≡ true → Part n.generation words (set views i (view_after_generation v n.generation all more turns))
      by_pin zero pin same = unseen (ap (λ b. shows_after b v.hand.pin v.image.loads v.pins.shows) same ∙ ap (λ q. shows_after true q v.image.loads v.pins.shows) pin)
      by_pin (suc q) pin same = let t = tells same in see_keeps_pins all more turns q t.0 t.1 t.2 pin same

      no_pin : (q : ℕ) → shows_after false q v.image.loads v.pins.shows ≡ v.pins.shows
      no_pin zero = refl
      no_pin (suc q) = refl

      by_same : (b : Bool) → is_same v.hand.began n.generation ≡ b → Part n.generation words (set views i (view_after_generation v n.generation all more turns))
      by_same true same = by_pin v.hand.pin refl same
      by_same false other = unseen (ap (λ b. shows_after b v.hand.pin v.image.loads v.pins.shows) other ∙ no_pin v.hand.pin)
