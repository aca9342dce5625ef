-- Statuses are stored: a slot is retired, or listed.
use Rattle.std.proofs.Common.{◌≡◌, ◌≢◌, ℕ, zero, suc, ◌+◌, ◌<◌, ◌≤◌, Bool, true, List, ◌∷◌, length, set, drop, refl, sym, ap, ◌∙◌, subst, arith, ⊎_elim, ◌⊎◌, inr, eq-eqb, ne_eqb, get_or-set_same, get_or-set_other, Some, cond, find}
use Rattle.std.specs.Prelude.{slice_index, slice_set, ◌==◌}
use mathlib.Core.Option.{some, some-injective}
use mathlib.Core.Logic.{dite}
use native.Mathlib.Decide.{ℕ_discrete}
use lib.ListN.{get_elem?}
use Rattle.xf_views.specs.declared.view.View.{View}
use Rattle.xf_views.specs.Log.{Numbers, Mark}
use Rattle.xf_views.specs.Hands.{count_before, loaded_before, loaded_since}
use Rattle.xf_views.specs.Views.{view_after_store}
use Rattle.xf_views.specs.TurnPart.{TurnPart}
use Rattle.xf_invariant.specs.PinPart.{Has, Holds, IsInPin, PinPart}
use Rattle.xf_invariant.proofs.Held.{drop_all, marks-retired, marks-listed, fresh-listed, fresh-other, retired-behind, fresh-behind}
use Rattle.xf_invariant.proofs.PinSeats.{owner_row}

module _ (policies slots : ℕ) (id_place : ℕ → ℕ) (most made : ℕ) (n : Numbers) (owners : List ℕ) (log : List Mark) (words settled pins : List ℕ) (views : List View)
    (a : TurnPart most made n owners log views) (c : PinPart policies slots id_place n.generation words settled pins views) (i : ℕ) (v : View) (at : get_elem? views i ≡ some v) (here : v.here ≡ true) where
  abbrev Part : ℕ → List ℕ → List View → Type 0
  Part g image seats = PinPart policies slots id_place g image settled pins seats

  -- Store of a status: a listed slot is retired
  pub retire_keeps_pins : (s0 : ℕ) → v.hand.writing ≡ true → s0 < slots → slots ≤ length words → slice_index words s0 ≡ 1 → Part n.generation (slice_set words s0 (n.generation + 1)) (set views i (view_after_store slots v s0 (n.generation + 1)))
  retire_keeps_pins s0 writing inside0 long was1 =
      let g = n.generation in
      let f = c.each i v at here in
      let t = (a.each i v at here).writes writing in
      let odd = t.1 in
      let w = view_after_store slots v s0 (g + 1) in
      let words' = slice_set words s0 (g + 1) in
      let now : slice_index words' s0 ≡ g + 1 = get_or-set_same words s0 (g + 1) 0 (omega arith) in
      let else_ : (s : ℕ) → s ≢ s0 → slice_index words' s ≡ slice_index words s = λ s ne. get_or-set_other words s0 s (g + 1) 0 ne in
      let mk : w.hand.retired ≡ (s0, length v.hand.loaded) ∷ v.hand.retired = marks-retired slots s0 (g + 1) v.hand.loaded v.hand.retired inside0 (omega arith) in
      let fr : w.pins.fresh ≡ v.pins.fresh = fresh-other slots s0 (g + 1) v.pins.fresh (λ e. omega arith) in
      let fits : (u : View) → IsInPin policies slots id_place g words settled pins u → IsInPin policies slots id_place g words' settled pins u = λ u fu. record {
        word = fu.word;
        low = fu.low;
        bare = fu.bare;
        holds = λ s x hold. let old = fu.holds s x hold in dite (ℕ_discrete s s0)
            (λ e. (inr (let b : slice_index words' s ≡ g + 1 = ap (slice_index words') e ∙ now in let l = fu.low in (omega arith, omega arith)), old.1))
            (λ ne. let b = else_ s ne in (subst (λ z. (z ≡ 1) ⊎ ((2 ≤ z) × (u.hand.pin ≤ z))) (sym b) old.0, old.1));
      } in
      owner_row policies slots id_place most made n owners log words settled pins views a c i v at here w refl refl refl refl refl t.0 words'
      (λ s inside. dite (ℕ_discrete s s0) (λ e. let b : slice_index words' s ≡ g + 1 = ap (slice_index words') e ∙ now in omega arith) (λ ne. let b = else_ s ne in let d = c.retired s inside in omega arith))
      (λ j u e h fu. fits u fu)
      (fits v f)
      (λ j u e hu s p x old seen ok hold.
      let seen' : Has (drop (loaded_before s ((s0, length v.hand.loaded) ∷ v.hand.retired)) v.hand.loaded) (u.worker, p) = subst (λ m. Has (drop (loaded_before s m) v.hand.loaded) (u.worker, p)) mk seen in
      dite (ℕ_discrete s0 s)
      (λ same. drop_all v.hand.loaded (u.worker, p) (subst (λ (b : Bool). Has (drop (count_before (cond b (Some (s0, length v.hand.loaded)) (find (λ m. m.0 == s) v.hand.retired))) v.hand.loaded) (u.worker, p)) (eq-eqb s0 s same) seen'))
      (λ ne. let b = else_ s (λ z. ne (sym z)) in
      c.clear i j v u at here t.0 e hu s p x (subst (λ z. 2 ≤ z) b old)
      (subst (λ (b : Bool). Has (drop (count_before (cond b (Some (s0, length v.hand.loaded)) (find (λ m. m.0 == s) v.hand.retired))) v.hand.loaded) (u.worker, p)) (ne_eqb s0 s ne) seen')
      (subst (λ z. (p ≡ 0) ⊎ (z < p)) b ok) hold))
      (λ wr j u e hu s x is_fresh hold. c.fresh i j v u at here writing e hu s x (subst (λ l. Has l s) fr is_fresh) hold)

  -- Store of a status: a slot that nobody holds is listed
  list_keeps : (s0 : ℕ) → v.hand.writing ≡ true → s0 < slots → slots ≤ length words
      → ((j : ℕ) (u : View) → get_elem? views j ≡ some u → u.here ≡ true → (x : ℕ) → Holds policies slots id_place u.pins.shows s0 x → ⊥)
      → Part n.generation (slice_set words s0 1) (set views i (view_after_store slots v s0 1))
  list_keeps s0 writing inside0 long not_held =
      let g = n.generation in
      let f = c.each i v at here in
      let t = (a.each i v at here).writes writing in
      let odd = t.1 in
      let w = view_after_store slots v s0 1 in
      let words' = slice_set words s0 1 in
      let now : slice_index words' s0 ≡ 1 = get_or-set_same words s0 1 0 (omega arith) in
      let else_ : (s : ℕ) → s ≢ s0 → slice_index words' s ≡ slice_index words s = λ s ne. get_or-set_other words s0 s 1 0 ne in
      let mk : w.hand.retired ≡ v.hand.retired = marks-listed slots s0 v.hand.loaded v.hand.retired in
      let fr : w.pins.fresh ≡ s0 ∷ v.pins.fresh = fresh-listed slots s0 v.pins.fresh inside0 in
      let fits : (j : ℕ) (u : View) → get_elem? views j ≡ some u → u.here ≡ true → IsInPin policies slots id_place g words settled pins u → IsInPin policies slots id_place g words' settled pins u = λ j u e hu fu. record {
        word = fu.word;
        low = fu.low;
        bare = fu.bare;
        holds = λ s x hold. let old = fu.holds s x hold in dite (ℕ_discrete s s0)
            (λ same. absurd (not_held j u e hu x (subst (λ z. Holds policies slots id_place u.pins.shows z x) same hold)))
            (λ ne. let b = else_ s ne in (subst (λ z. (z ≡ 1) ⊎ ((2 ≤ z) × (u.hand.pin ≤ z))) (sym b) old.0, old.1));
      } in
      owner_row policies slots id_place most made n owners log words settled pins views a c i v at here w refl refl refl refl refl t.0 words'
      (λ s inside. dite (ℕ_discrete s s0) (λ e. let b : slice_index words' s ≡ 1 = ap (slice_index words') e ∙ now in omega arith) (λ ne. let b = else_ s ne in let d = c.retired s inside in omega arith))
      fits
      (fits i v at here f)
      (λ j u e hu s p x old seen ok hold. dite (ℕ_discrete s s0)
      (λ same. let b : slice_index words' s ≡ 1 = ap (slice_index words') same ∙ now in omega arith)
      (λ ne. let b = else_ s ne in c.clear i j v u at here t.0 e hu s p x (subst (λ z. 2 ≤ z) b old) (subst (λ m. Has (drop (loaded_before s m) v.hand.loaded) (u.worker, p)) mk seen) (subst (λ z. (p ≡ 0) ⊎ (z < p)) b ok) hold))
      (λ wr j u e hu s x is_fresh hold. let z = subst (λ l. Has l s) fr is_fresh in fresh_or j u e hu s x z.0 z.1 hold)
    where
      fresh_or : (j : ℕ) (u : View) → get_elem? views j ≡ some u → u.here ≡ true → (s x k : ℕ) → get_elem? (s0 ∷ v.pins.fresh) k ≡ some s → Holds policies slots id_place u.pins.shows s x → ⊥
      fresh_or j u e hu s x zero q hold = not_held j u e hu x (subst (λ z. Holds policies slots id_place u.pins.shows z x) (sym (some-injective s0 s q)) hold)
      fresh_or j u e hu s x (suc k) q hold = c.fresh i j v u at here writing e hu s x (k, q) hold

  -- from 0, and from a retirement for which every seat was found clear
  pub list_free_keeps_pins : (s0 : ℕ) → v.hand.writing ≡ true → s0 < slots → slots ≤ length words → slice_index words s0 ≡ 0 → Part n.generation (slice_set words s0 1) (set views i (view_after_store slots v s0 1))
  list_free_keeps_pins s0 writing inside0 long free = list_keeps s0 writing inside0 long (λ j u e hu x hold. ⊎_elim
      (λ (one : slice_index words s0 ≡ 1). omega arith)
      (λ (ret : (2 ≤ slice_index words s0) × (u.hand.pin ≤ slice_index words s0)). let r = ret.0 in omega arith)
      ((c.each j u e hu).holds s0 x hold).0)

  pub list_again_keeps_pins : (s0 : ℕ) → v.hand.writing ≡ true → s0 < slots → slots ≤ length words → 2 ≤ slice_index words s0
      → ((k : ℕ) → k < made → (q : ℕ) × Has (loaded_since s0 v.hand) (k, q) × ((q ≡ 0) ⊎ (slice_index words s0 < q)))
      → Part n.generation (slice_set words s0 1) (set views i (view_after_store slots v s0 1))
  list_again_keeps_pins s0 writing inside0 long old all = list_keeps s0 writing inside0 long (λ j u e hu x hold.
      let m = all u.worker (a.each j u e hu).worker in c.clear i j v u at here ((a.each i v at here).writes writing).0 e hu s0 m.0 x old m.1 m.2 hold)

  -- a word behind the statuses
  pub other_keeps_pins : (place word : ℕ) → v.hand.writing ≡ true → slots ≤ place → Part n.generation (slice_set words place word) (set views i (view_after_store slots v place word))
  other_keeps_pins place word writing behind =
      let g = n.generation in
      let t = (a.each i v at here).writes writing in
      let w = view_after_store slots v place word in
      let words' = slice_set words place word in
      let else_ : (s : ℕ) → s < slots → slice_index words' s ≡ slice_index words s = λ s inside. get_or-set_other words place s word 0 (λ e. omega arith) in
      let mk : w.hand.retired ≡ v.hand.retired = retired-behind slots place word v.hand.loaded v.hand.retired behind in
      let fr : w.pins.fresh ≡ v.pins.fresh = fresh-behind slots place word v.pins.fresh behind in
      let fits : (u : View) → IsInPin policies slots id_place g words settled pins u → IsInPin policies slots id_place g words' settled pins u = λ u fu. record {
        word = fu.word;
        low = fu.low;
        bare = fu.bare;
        holds = λ s x hold. let old = fu.holds s x hold in (subst (λ z. (z ≡ 1) ⊎ ((2 ≤ z) × (u.hand.pin ≤ z))) (sym (else_ s hold.5)) old.0, old.1);
      } in
      owner_row policies slots id_place most made n owners log words settled pins views a c i v at here w refl refl refl refl refl t.0 words'
      (λ s inside. let b = else_ s inside in let d = c.retired s inside in omega arith)
      (λ j u e h fu. fits u fu)
      (fits v (c.each i v at here))
      (λ j u e hu s p x old seen ok hold. let b = else_ s hold.5 in
      c.clear i j v u at here t.0 e hu s p x (subst (λ z. 2 ≤ z) b old) (subst (λ m. Has (drop (loaded_before s m) v.hand.loaded) (u.worker, p)) mk seen) (subst (λ z. (p ≡ 0) ⊎ (z < p)) b ok) hold)
      (λ wr j u e hu s x is_fresh hold. c.fresh i j v u at here writing e hu s x (subst (λ l. Has l s) fr is_fresh) hold)

  -- a retired slot for which every seat was found clear is held by none
  pub unheld : (s : ℕ) → v.hand.has_turn ≡ true → 2 ≤ slice_index words s
      → ((k : ℕ) → k < made → (q : ℕ) × Has (loaded_since s v.hand) (k, q) × ((q ≡ 0) ⊎ (slice_index words s < q)))
      → (j : ℕ) (u : View) → get_elem? views j ≡ some u → u.here ≡ true → (x : ℕ) → Holds policies slots id_place u.pins.shows s x → ⊥
  unheld s turn old all j u e hu x hold = let m = all u.worker (a.each j u e hu).worker in c.clear i j v u at here turn e hu s m.0 x old m.1 m.2 hold
