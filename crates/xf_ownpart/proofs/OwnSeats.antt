-- The own part after a step of one seat: what holds of free slots and of the other seats.
use Rattle.std.proofs.Common.{◌≡◌, ◌≢◌, ℕ, ◌+◌, true, List, set, Some, Option, sym, ap, ◌∙◌, arith, ⊎_elim, ◌⊎◌}
use mathlib.Core.Option.{some, some-injective}
use lib.ListN.{get_elem?}
use Rattle.xf_types.specs.declared.state.Sa.{Sa}
use Rattle.xf_types.specs.Machine.{Machine}
use Rattle.xf_types.specs.History.{machine_of}
use Rattle.xf_views.specs.declared.entry.Listed.{Listed}
use Rattle.xf_views.specs.declared.view.View.{View}
use Rattle.xf_views.specs.declared.view.SlotTurn.{SlotTurn}
use Rattle.xf_views.specs.Log.{Mark, receipts_of}
use Rattle.xf_views.proofs.Seats.{each_set, other_worker}
use Rattle.xf_invariant.specs.Meaning.{Told}
use Rattle.xf_invariant.specs.PinPart.{Has}
use Rattle.xf_ownpart.specs.Lists.{IsListing}
use Rattle.xf_ownpart.specs.OwnPart.{AreMarked, IsInOwn, OwnPart, listed_at, standing_of}
use Rattle.xf_ownpart.specs.Turns.{IsHeld, IsCovered}
use Rattle.xf_ownpart.specs.OwnLaws.{Shift, last_of}
use Rattle.xf_ownpart.proofs.Slots.{listed-back}
use Rattle.xf_ownpart.proofs.Moments.{lists-now}

module _ (bucket_of : Sa → ℕ) (good : List ℕ → Told → Type 0) (lists : List ℕ → ℕ → Option (Sa × ℕ)) (all : IsListing good lists) (most : ℕ) (base : List ℕ) (start : Machine) (w : Shift bucket_of good lists most base start) where
  abbrev last : Machine
  last = last_of bucket_of good lists most base start w

  abbrev v : View
  v = w.scene.view

  -- what the own part says of the seat that makes the step
  pub mine : IsInOwn lists last w.scene.settled w.turns w.scene.log v
  mine = w.own.each w.scene.seat v w.scene.there w.scene.here

  -- a step that changes nothing of which the own part speaks
  pub quiet : (z : View) → IsInOwn lists last w.scene.settled w.turns w.scene.log z → OwnPart lists start w.scene.settled w.turns w.scene.log w.home (set w.scene.views w.scene.seat z)
  quiet z fits = record {
    marked = w.own.marked;
    free = w.own.free;
    each = each_set w.scene.views w.scene.seat v z w.scene.there (IsInOwn lists last w.scene.settled w.turns w.scene.log) (λ j u apart e h. w.own.each j u e h) fits;
  }

  -- another seat holds no turn that this one holds
  pub apart-slots : (j : ℕ) (u : View) → j ≢ w.scene.seat → get_elem? w.scene.views j ≡ some u → u.here ≡ true → (e : SlotTurn) → Has u.own.turns e → IsHeld v.own.turns e.slot → ⊥
  apart-slots j u apart at h e has held =
      let theirs = (w.own.each j u at h e has).word in
      let ours = (mine held.0 held.1).word in
      let same : v.worker + 1 ≡ u.worker + 1 = some-injective (v.worker + 1) (u.worker + 1) (sym ours ∙ (ap (get_elem? w.turns) held.2 ∙ theirs)) in
      other_worker most w.scene.made w.scene.numbers w.scene.owners w.scene.log w.scene.views w.scene.turn w.scene.seat v w.scene.there w.scene.here j u apart at h (omega arith)

  -- nor is a free one held
  pub free-slots : (slot : ℕ) → get_elem? w.turns slot ≡ some 0 → IsHeld v.own.turns slot → ⊥
  free-slots slot free held =
      let same : 0 ≡ v.worker + 1 = some-injective 0 (v.worker + 1) (sym free ∙ (sym (ap (get_elem? w.turns) held.2) ∙ (mine held.0 held.1).word)) in
      omega arith

  -- a state on which a receipt rests that a held turn keeps is listed at no other slot
  pub not-rested : (one : Option ℕ) → IsCovered v.own.turns one → (slot : ℕ) (p : Sa × ℕ) → (IsHeld v.own.turns slot → ⊥) → lists w.scene.settled slot ≡ Some p → one ≡ Some p.0.sid → ⊥
  not-rested one covered slot p unheld at is =
      let k = covered p.0.sid is in
      let f = mine k.1.turn k.1.held in
      let q = listed-back lists last w.scene.settled k.1.turn.slot k.0 (f.keeps ∙ k.1.is) in
      unheld (k.1.turn, k.1.held, (lists-now bucket_of good lists all most base start w).once k.1.turn.slot slot q.0 p q.1 at (ap (λ (l : Listed). l.state.sid) q.2 ∙ k.2))

  -- a step with a mark: slots whose turns the seat doesn't hold list what they did, and the receipt rests on no state there
  pub row_keeps : (log : List Mark) (image : List ℕ) (one : Option ℕ) (z : View) → AreMarked start.shown log
      → ((slot : ℕ) → (IsHeld v.own.turns slot → ⊥) → listed_at lists (machine_of start (receipts_of log)) image slot ≡ listed_at lists last w.scene.settled slot)
      → ((slot : ℕ) (p : Sa × ℕ) → (IsHeld v.own.turns slot → ⊥) → lists w.scene.settled slot ≡ Some p → one ≡ Some p.0.sid → ⊥)
      → ((y : ℕ) (m : Mark) → get_elem? log y ≡ some m → (get_elem? w.scene.log y ≡ some m) ⊎ (m.rests ≡ one))
      → IsInOwn lists (machine_of start (receipts_of log)) image w.turns log z
      → OwnPart lists start image w.turns log w.home (set w.scene.views w.scene.seat z)
  row_keeps log image one z marked left elsewhere marks fits = record {
    marked = marked;
    free = λ slot free. w.own.free slot free ∙ ap standing_of (sym (left slot (free-slots slot free)));
    each = each_set w.scene.views w.scene.seat v z w.scene.there (IsInOwn lists (machine_of start (receipts_of log)) image w.turns log)
        (λ j u apart at h e has.
        let f = w.own.each j u at h e has in
        let unheld = apart-slots j u apart at h e has in
        record {
          word = f.word;
          keeps = left e.slot unheld ∙ f.keeps;
          no_later = λ l x y m tried is late less there rests.
              ⊎_elim
              (λ (old : get_elem? w.scene.log y ≡ some m). f.no_later l x y m tried is late less old rests)
              (λ (new : m.rests ≡ one).
              let q = listed-back lists last w.scene.settled e.slot l (f.keeps ∙ is) in
              elsewhere e.slot q.0 unheld q.1 (sym new ∙ rests ∙ ap (λ (k : Listed). Some k.state.sid) (sym q.2)))
              (marks y m there);
        })
        fits;
  }
