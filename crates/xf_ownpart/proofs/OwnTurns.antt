-- Slots' turns that are taken and given back, and the values at home.
use Rattle.std.proofs.Common.{◌≡◌, ◌≢◌, ℕ, zero, suc, ◌+◌, true, false, true≢false, not, ◌==◌, List, ◌∷◌, set, Option, sym, ap, ◌∙◌, subst, arith, ⊎_elim, eq-eqb}
use Rattle.std.proofs.Common.{◌⊎◌, inl, inr}
use mathlib.Core.Option.{some, some-injective}
use lib.ListN.{get_elem?}
use Rattle.xf_types.specs.declared.state.Sa.{Sa}
use Rattle.xf_types.specs.Machine.{Machine}
use Rattle.xf_types.specs.Standing.{Standing}
use Rattle.xf_views.specs.declared.entry.Listed.{Listed}
use Rattle.xf_views.specs.declared.view.View.{View}
use Rattle.xf_views.specs.declared.view.SlotTurn.{SlotTurn}
use Rattle.xf_views.specs.Views.{view_after_take, view_after_give}
use Rattle.xf_views.proofs.Lists.{at_set, set_here, set_else, at_below}
use Rattle.xf_views.proofs.Seats.{each_set}
use Rattle.xf_invariant.specs.Meaning.{Told}
use Rattle.xf_invariant.specs.PinPart.{Has}
use Rattle.xf_ownpart.specs.Lists.{IsListing}
use Rattle.xf_ownpart.specs.OwnPart.{FitsOwn, IsInOwn, OwnPart, listed_at, standing_of}
use Rattle.xf_ownpart.specs.Turns.{IsHeld}
use Rattle.xf_ownpart.specs.OwnLaws.{Shift, last_of}
use Rattle.xf_ownpart.proofs.Haves.{has_filter}
use Rattle.xf_ownpart.proofs.Slots.{standing-one}
use Rattle.xf_ownpart.proofs.OwnSeats.{mine, apart-slots, free-slots}

module _ (bucket_of : Sa → ℕ) (good : List ℕ → Told → Type 0) (lists : List ℕ → ℕ → Option (Sa × ℕ)) (all : IsListing good lists) (most : ℕ) (base : List ℕ) (start : Machine) (w : Shift bucket_of good lists most base start) where
  abbrev last : Machine
  last = last_of bucket_of good lists most base start w

  abbrev v : View
  v = w.scene.view

  -- with another word for one slot, of the turns of other slots the same is said
  other-slot : (k slot word : ℕ) (late : Option ℕ) (e : SlotTurn) → e.slot ≢ slot → FitsOwn lists last w.scene.settled w.turns w.scene.log k late e → FitsOwn lists last w.scene.settled (set w.turns slot word) w.scene.log k late e
  other-slot k slot word late e other f = record { word = set_else w.turns slot e.slot word other ∙ f.word; keeps = f.keeps; no_later = f.no_later }

  pub take_keeps_own : (slot : ℕ) (listed : Option Listed) → get_elem? w.turns slot ≡ some 0 → w.home slot ≡ standing_of listed
      → OwnPart lists start w.scene.settled (set w.turns slot (v.worker + 1)) w.scene.log w.home (set w.scene.views w.scene.seat (view_after_take v slot listed))
  take_keeps_own slot listed free home =
      let new : SlotTurn = record { slot = slot; listed = listed; still = true; tried = false } in
      let turns = set w.turns slot (v.worker + 1) in
      record {
        marked = w.own.marked;
        free = λ k is_free. ⊎_elim
            (λ (z : (k ≡ slot) × (v.worker + 1 ≡ 0)). let b = z.1 in absurd (omega arith))
            (λ (z : (k ≢ slot) × (get_elem? w.turns k ≡ some 0)). w.own.free k z.1)
            (at_set w.turns slot k (v.worker + 1) 0 is_free);
        each = each_set w.scene.views w.scene.seat v (view_after_take v slot listed) w.scene.there (IsInOwn lists last w.scene.settled turns w.scene.log)
            (λ j u apart at h e has. let f = w.own.each j u at h e has in other-slot u.worker slot (v.worker + 1) u.hand.trial e (not_free u.worker e.slot f.word) f)
            (λ e has. ⊎_elim
            (λ (z : new ≡ e). subst (FitsOwn lists last w.scene.settled turns w.scene.log v.worker v.hand.trial) z record {
              word = set_here w.turns slot (v.worker + 1) (at_below w.turns slot 0 free);
              keeps = standing-one (listed_at lists last w.scene.settled slot) listed (sym (w.own.free slot free) ∙ home);
              no_later = λ l x y m tried is late less there rests. true≢false (sym tried);
            })
            (λ (z : Has v.own.turns e). let f = mine bucket_of good lists all most base start w e z in other-slot v.worker slot (v.worker + 1) v.hand.trial e (not_free v.worker e.slot f.word) f)
            (first_or new v.own.turns e has));
      }
    where
      not_free : (k other : ℕ) → get_elem? w.turns other ≡ some (k + 1) → other ≢ slot
      not_free k other word same = let b : 0 ≡ k + 1 = some-injective 0 (k + 1) (sym free ∙ (ap (get_elem? w.turns) (sym same) ∙ word)) in omega arith

      first_or : (x : SlotTurn) (xs : List SlotTurn) (e : SlotTurn) → Has (x ∷ xs) e → (x ≡ e) ⊎ Has xs e
      first_or x xs e (zero, at) = inl (some-injective x e at)
      first_or x xs e (suc k, at) = inr (k, at)

  pub give_keeps_own : (e : SlotTurn) → Has v.own.turns e → w.home e.slot ≡ standing_of e.listed
      → OwnPart lists start w.scene.settled (set w.turns e.slot 0) w.scene.log w.home (set w.scene.views w.scene.seat (view_after_give v e.slot))
  give_keeps_own e has home =
      let slot = e.slot in
      let turns = set w.turns slot 0 in
      record {
        marked = w.own.marked;
        free = λ k is_free. ⊎_elim
            (λ (z : (k ≡ slot) × (0 ≡ 0)). ap w.home z.0 ∙ home ∙ ap standing_of (sym (mine bucket_of good lists all most base start w e has).keeps) ∙ ap (λ n. standing_of (listed_at lists last w.scene.settled n)) (sym z.0))
            (λ (z : (k ≢ slot) × (get_elem? w.turns k ≡ some 0)). w.own.free k z.1)
            (at_set w.turns slot k 0 0 is_free);
        each = each_set w.scene.views w.scene.seat v (view_after_give v slot) w.scene.there (IsInOwn lists last w.scene.settled turns w.scene.log)
            (λ j u apart at h f there. other-slot u.worker slot 0 u.hand.trial f (λ same. apart-slots bucket_of good lists all most base start w j u apart at h f there (e, has, sym same)) (w.own.each j u at h f there))
            (λ f there.
            let z = has_filter (λ (t : SlotTurn). not (t.slot == slot)) v.own.turns f there in
            other-slot v.worker slot 0 v.hand.trial f (λ same. true≢false (sym z.1 ∙ ap not (eq-eqb f.slot slot same))) (mine bucket_of good lists all most base start w f z.0));
      }

  -- other values at home, of slots whose turns the seat holds
  pub value_keeps_own : (home : ℕ → Standing) → ((slot : ℕ) → (IsHeld v.own.turns slot → ⊥) → home slot ≡ w.home slot) → OwnPart lists start w.scene.settled w.turns w.scene.log home w.scene.views
  value_keeps_own home same = record {
    marked = w.own.marked;
    free = λ slot free. same slot (free-slots bucket_of good lists all most base start w slot free) ∙ w.own.free slot free;
    each = w.own.each;
  }
