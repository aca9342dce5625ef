-- Held turns: which seat holds which.
use Rattle.std.proofs.Common.{◌≡◌, ◌≢◌, ℕ, zero, suc, ◌+◌, ◌==◌, Bool, true, false, not, List, [], ◌∷◌, map, filter, set, Option, refl, sym, ap, ◌∙◌, subst, arith, cond, ne_eqb, ⊎_elim}
use mathlib.Core.Option.{some, some-injective, some-ne-none}
use lib.ListN.{get_elem?}
use Rattle.xf_types.specs.declared.call.Call.{Call}
use Rattle.xf_types.specs.declared.state.Sa.{Sa}
use Rattle.xf_views.specs.declared.entry.Listed.{Listed}
use Rattle.xf_views.specs.declared.view.View.{View}
use Rattle.xf_views.specs.declared.view.Start.{Start}
use Rattle.xf_views.specs.declared.view.SlotTurn.{SlotTurn}
use Rattle.xf_views.specs.Views.{view_after_take, view_after_give}
use Rattle.xf_views.specs.TurnSays.{IsSeat}
use Rattle.xf_views.proofs.Lists.{at_set, at_below, set_here, set_else}
use Rattle.xf_views.proofs.Seats.{some_set}
use Rattle.xf_invariant.specs.PinPart.{Has}
use Rattle.xf_ownpart.specs.Turns.{IsHeld, touched_turn, moved_turn}
use Rattle.xf_ownpart.proofs.Haves.{has_first, has_more}
use Rattle.xf_seats.specs.Seats.{nobody, taker, split_views, joined_views}
use Rattle.xf_seats.specs.FirstSeat.{one_seat}
use Rattle.xf_seats.specs.HeldPart.{HeldPart}
use Rattle.xf_seats.specs.HeldLaws.{StillHolds}
use Rattle.xf_seats.proofs.Split.{split_some}

-- a list that is mapped has what is made of each element
mapped : {A B : Type 0} (f : A → B) (xs : List A) (a : A) → Has xs a → Has (map f xs) (f a)
mapped f [] a h = absurd (some-ne-none a (sym h.1))
mapped f (x ∷ xs) a (zero, e) = (zero, ap (λ z. some (f z)) (some-injective x a e))
mapped f (x ∷ xs) a (suc k, e) = let h = mapped f xs a (k, e) in has_more (f x) (f a) (map f xs) h

-- one that is filtered has each element that passes
passed : {A : Type 0} (p : A → Bool) (xs : List A) (a : A) → Has xs a → p a ≡ true → Has (filter p xs) a
passed p [] a h pass = absurd (some-ne-none a (sym h.1))
passed {A} p (x ∷ xs) a (zero, e) pass =
    let same : x ≡ a = some-injective x a e in
    subst (λ b. Has (cond b (x ∷ filter p xs) (filter p xs)) a) (sym (ap p same ∙ pass)) (zero, e)
passed {A} p (x ∷ xs) a (suc k, e) pass =
    let h = passed p xs a (k, e) pass in either (p x) h
  where
    either : (b : Bool) → Has (filter p xs) a → Has (cond b (x ∷ filter p xs) (filter p xs)) a
    either true h = has_more x a (filter p xs) h
    either false h = h

-- turns that keep their slots are held as before
keeps_slots : (f : SlotTurn → SlotTurn) → ((e : SlotTurn) → (f e).slot ≡ e.slot) → (turns : List SlotTurn) (slot : ℕ) → IsHeld turns slot → IsHeld (map f turns) slot
keeps_slots f same turns slot h = (f h.0, mapped f turns h.0 h.1, same h.0 ∙ h.2)

pub touched_holds : (v w : View) (one : Option ℕ) (c : Call) → w.here ≡ true → w.worker ≡ v.worker → w.own.turns ≡ map (touched_turn one c) v.own.turns → StillHolds v w
touched_holds v w one c here same turns = record {
  here = here;
  worker = same;
  holds = λ slot h. subst (λ (l : List SlotTurn). IsHeld l slot) (sym turns) (keeps_slots (touched_turn one c) (λ e. refl) v.own.turns slot h);
}

pub moved_holds : (lists : List ℕ → ℕ → Option (Sa × ℕ)) (image : List ℕ) (v w : View) (one : Option ℕ) (c : Call) → w.here ≡ true → w.worker ≡ v.worker
    → w.own.turns ≡ map (moved_turn lists image one c) v.own.turns → StillHolds v w
moved_holds lists image v w one c here same turns = record {
  here = here;
  worker = same;
  holds = λ slot h. subst (λ (l : List SlotTurn). IsHeld l slot) (sym turns) (keeps_slots (moved_turn lists image one c) (λ e. refl) v.own.turns slot h);
}

module _ (turns : List ℕ) (views : List View) (i : ℕ) (v : View) (is : IsSeat views i v) (g : HeldPart turns views) where
  pub others_keep_held : (w : View) → StillHolds v w → HeldPart turns (set views i w)
  others_keep_held w s = record {
    held = λ slot k e. some_set views i v w is.there (λ u. (u.worker ≡ k) × IsHeld u.own.turns slot) s.here (λ q. (s.worker ∙ q.0, s.holds slot q.1)) (g.held slot k e);
  }

  pub take_keeps_held : (slot : ℕ) (listed : Option Listed) → HeldPart (set turns slot (v.worker + 1)) (set views i (view_after_take v slot listed))
  take_keeps_held slot listed =
      let new : SlotTurn = record { slot = slot; listed = listed; still = true; tried = false } in
      let w = view_after_take v slot listed in
      record {
        held = λ other k e. ⊎_elim
            (λ (p : (other ≡ slot) × (v.worker + 1 ≡ k + 1)). let q = p.1 in
            (i, w, set_here views i w (at_below views i v is.there), is.here, (omega arith, (new, has_first new v.own.turns, sym p.0))))
            (λ (p : (other ≢ slot) × (get_elem? turns other ≡ some (k + 1))).
            some_set views i v w is.there (λ u. (u.worker ≡ k) × IsHeld u.own.turns other) is.here
            (λ q. (q.0, (q.1.0, has_more new q.1.0 v.own.turns q.1.1, q.1.2))) (g.held other k p.1))
            (at_set turns slot other (v.worker + 1) (k + 1) e);
      }

  pub give_keeps_held : (slot : ℕ) → HeldPart (set turns slot 0) (set views i (view_after_give v slot))
  give_keeps_held slot =
      let w = view_after_give v slot in
      record {
        held = λ other k e. ⊎_elim
            (λ (p : (other ≡ slot) × (0 ≡ k + 1)). let q = p.1 in absurd (omega arith))
            (λ (p : (other ≢ slot) × (get_elem? turns other ≡ some (k + 1))).
            some_set views i v w is.there (λ u. (u.worker ≡ k) × IsHeld u.own.turns other) is.here
            (λ q. (q.0, (q.1.0, passed (λ (t : SlotTurn). not (t.slot == slot)) v.own.turns q.1.0 q.1.1 (ap not (ne_eqb q.1.0.slot slot (λ z. p.0 (sym q.1.2 ∙ z)))), q.1.2)))
            (g.held other k p.1))
            (at_set turns slot other 0 (k + 1) e);
      }

  pub split_keeps_held : HeldPart turns (split_views views i v)
  split_keeps_held = record {
    held = λ slot k e. split_some views i v is.there is.here (λ u. (u.worker ≡ k) × IsHeld u.own.turns slot) (λ q. q) (g.held slot k e);
  }

  pub join_keeps_held : (j : ℕ) (w : View) → IsSeat views j w → (j ≡ i → ⊥) → w.own.turns ≡ [] → HeldPart turns (joined_views views i v j w)
  join_keeps_held j w there apart none = record {
    held = λ slot k e.
        let o = some_set views i v (taker v w) is.there (λ u. (u.worker ≡ k) × IsHeld u.own.turns slot) is.here (λ q. q) (g.held slot k e) in
        let first = set views i (taker v w) in (
          o.0,
          o.1,
          set_else first j o.0 nobody (λ same.
              let at_j : get_elem? first j ≡ some w = set_else views i j (taker v w) apart ∙ there.there in
              let is_w : o.1 ≡ w = some-injective o.1 w (sym o.2 ∙ (ap (get_elem? first) same ∙ at_j)) in
              no_turn w none slot (subst (λ (u : View). IsHeld u.own.turns slot) is_w o.4.1)) ∙ o.2,
          o.3,
          o.4,
        );
  }
    where
      no_turn : (w : View) → w.own.turns ≡ [] → (slot : ℕ) → IsHeld w.own.turns slot → ⊥
      no_turn w none slot h = some-ne-none h.0 (sym h.1.1 ∙ ap (λ (l : List SlotTurn). get_elem? l h.1.0) none)

  pub alone_all_free : ((j : ℕ) (u : View) → IsSeat views j u → j ≡ i) → v.own.turns ≡ [] → (slot x : ℕ) → get_elem? turns slot ≡ some x → x ≡ 0
  alone_all_free alone none slot zero e = refl
  alone_all_free alone none slot (suc k) e =
      let o = g.held slot k (e ∙ ap some (next k)) in
      let same : o.0 ≡ i = alone o.0 o.1 (record { there = o.2; here = o.3 }) in
      let is_v : o.1 ≡ v = some-injective o.1 v (sym o.2 ∙ (ap (get_elem? views) same ∙ is.there)) in
      let h = subst (λ (u : View). IsHeld u.own.turns slot) is_v o.4.1 in
      absurd (some-ne-none h.0 (sym h.1.1 ∙ ap (λ (l : List SlotTurn). get_elem? l h.1.0) none))
    where
      next : (k : ℕ) → suc k ≡ k + 1
      next k = omega arith

pub one_seat_held : (turns : List ℕ) (start : Start) → ((slot x : ℕ) → get_elem? turns slot ≡ some x → x ≡ 0) → HeldPart turns (one_seat start)
one_seat_held turns start free = record { held = λ slot k e. let z = free slot (k + 1) e in absurd (omega arith) }
