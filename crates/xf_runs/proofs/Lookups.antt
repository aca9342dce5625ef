-- Lists read at a place, and the slots of turns that are held.
use Rattle.std.proofs.Common.{◌≡◌, ◌≢◌, ℕ, zero, suc, ◌<◌, Bool, true, false, true≢false, not, cond, List, [], ◌∷◌, length, map, filter, set, Some, refl, sym, ap, ap₂, ◌∙◌, subst, subst₂, inl, inr, ⊎_elim, ◌⊎◌, arith, eqb-true}
use Rattle.std.specs.List.{list_any}
use Rattle.std.specs.Prelude.{◌==◌, ◌||◌, slice_get, slice_index, replicate}
use Rattle.std.proofs.lemmas.Option.{none-some, same_Some}
use mathlib.Core.Option.{some, some-injective, some-ne-none}
use lib.ListN.{get_elem?}
use Rattle.xf_views.specs.declared.view.View.{View}
use Rattle.xf_views.specs.declared.view.SlotTurn.{SlotTurn}
use Rattle.xf_views.proofs.Lists.{set_here, set_else, at_below}
use Rattle.xf_invariant.specs.PinPart.{Has}
use Rattle.xf_ownpart.proofs.Haves.{has_first, has_more}
use Rattle.xf_proto.specs.SeatState.{SeatState}
use Rattle.xf_proto.specs.Legality.{has_slot}
use Rattle.xf_runs.specs.Holds.{slot_of, FitsSeat, AreSeats}

module _ {A : Type 0} where
  pub get_set : (l : List A) (i j : ℕ) (a b : A) → slice_get (set l i a) j ≡ Some b → ((j ≡ i) × (a ≡ b)) ⊎ ((j ≢ i) × (slice_get l j ≡ Some b))
  get_set [] i j a b e = absurd (none-some b e)
  get_set (x ∷ xs) zero zero a b e = inl (refl, same_Some a b e)
  get_set (x ∷ xs) zero (suc j) a b e = inr ((λ h. omega arith), e)
  get_set (x ∷ xs) (suc i) zero a b e = inr ((λ h. omega arith), e)
  get_set (x ∷ xs) (suc i) (suc j) a b e = ⊎_elim (λ t. inl (ap suc t.0, t.1)) (λ t. let n = t.0 in inr ((λ h. n (omega arith)), t.1)) (get_set xs i j a b e)

  pub get_replicated : (n i : ℕ) (a b : A) → slice_get (replicate n a) i ≡ Some b → (i < n) × (a ≡ b)
  get_replicated zero i a b e = absurd (none-some b e)
  get_replicated (suc n) zero a b e = (omega arith, same_Some a b e)
  get_replicated (suc n) (suc i) a b e = let h = get_replicated n i a b e in let less = h.0 in (omega arith, h.1)

  pub any-has : (f : A → Bool) (l : List A) → list_any f l ≡ true → (a : A) × Has l a × (f a ≡ true)
  any-has f [] e = absurd (true≢false (sym e))
  any-has f (x ∷ xs) e =
      elim (f x) as (λ b. f x ≡ b → (b || list_any f xs) ≡ true → (a : A) × Has (x ∷ xs) a × (f a ≡ true)) [
        | true ↦ λ is k. (x, has_first x xs, is)
        | false ↦ λ is k. let h = any-has f xs k in (h.0, has_more x h.0 xs h.1, h.2)
      ] refl e

pub index-at : (l : List ℕ) (i x : ℕ) → get_elem? l i ≡ some x → slice_index l i ≡ x
index-at [] i x e = absurd (some-ne-none x (sym e))
index-at (y ∷ ys) zero x e = some-injective y x e
index-at (y ∷ ys) (suc i) x e = index-at ys i x e

pub at-index : (l : List ℕ) (i : ℕ) → i < length l → get_elem? l i ≡ some (slice_index l i)
at-index [] i h = absurd (omega arith)
at-index (y ∷ ys) zero h = refl
at-index (y ∷ ys) (suc i) h = at-index ys i (omega arith)

-- the slots of turns after what doesn't change them
pub map-slots : (g : SlotTurn → SlotTurn) → ((e : SlotTurn) → slot_of (g e) ≡ slot_of e) → (turns : List SlotTurn) → map slot_of (map g turns) ≡ map slot_of turns
map-slots g same [] = refl
map-slots g same (e ∷ es) = ap₂ (λ (x : ℕ) (xs : List ℕ). x ∷ xs) (same e) (map-slots g same es)

-- and after one is given back
pub give-slots : (slot : ℕ) (turns : List SlotTurn) → map slot_of (filter (λ e. not (e.slot == slot)) turns) ≡ filter (λ j. not (j == slot)) (map slot_of turns)
give-slots slot [] = refl
give-slots slot (e ∷ es) = by (not (e.slot == slot)) (give-slots slot es)
  where
    by : (b : Bool) → map slot_of (filter (λ t. not (t.slot == slot)) es) ≡ filter (λ j. not (j == slot)) (map slot_of es)
        → map slot_of (cond b (e ∷ filter (λ t. not (t.slot == slot)) es) (filter (λ t. not (t.slot == slot)) es))
        ≡ cond b (e.slot ∷ filter (λ j. not (j == slot)) (map slot_of es)) (filter (λ j. not (j == slot)) (map slot_of es))
    by true h = ap (λ (l : List ℕ). e.slot ∷ l) h
    by false h = h

pub held-slot : (slot : ℕ) (turns : List SlotTurn) → has_slot slot (map slot_of turns) ≡ true → (e : SlotTurn) × Has turns e × (e.slot ≡ slot)
held-slot slot [] h = absurd (true≢false (sym h))
held-slot slot (t ∷ ts) h =
    elim (t.slot == slot) as (λ b. (t.slot == slot) ≡ b → (b || has_slot slot (map slot_of ts)) ≡ true → (e : SlotTurn) × Has (t ∷ ts) e × (e.slot ≡ slot)) [
      | true ↦ λ is k. (t, has_first t ts, eqb-true t.slot slot is)
      | false ↦ λ is k. let r = held-slot slot ts k in (r.0, has_more t r.0 ts r.1, r.2)
    ] refl h

-- the seats after a step of one of them
pub seats-set : (seats : List SeatState) (views : List View) (i : ℕ) (t : SeatState) (v w : View) → AreSeats seats views → get_elem? views i ≡ some v → FitsSeat i t w
    → AreSeats (set seats i t) (set views i w)
seats-set seats views i t v w all at fits j u e = ⊎_elim
    (λ (x : (j ≡ i) × (t ≡ u)). (w, subst (λ n. get_elem? (set views i w) n ≡ some w) (sym x.0) (set_here views i w (at_below views i v at)), subst₂ (λ (n : ℕ) (s : SeatState). FitsSeat n s w) (sym x.0) x.1 fits))
    (λ (x : (j ≢ i) × (slice_get seats j ≡ Some u)). let r = all j u x.1 in (r.0, set_else views i j w x.0 ∙ r.1, r.2))
    (get_set seats i j t u e)
