-- The passes of a table that begins.
use Rattle.std.proofs.Common.{◌≡◌, ℕ, zero, suc, ◌+◌, ◌<◌, ◌≤◌, ◌==◌, if◌then◌else◌, Bool, false, List, [], ◌∷◌, ◌++◌, length, Option, refl, sym, ap, ◌∙◌, subst, arith}
use Rattle.std.proofs.lemmas.Bool.Decides.{nat_tests}
use mathlib.Core.Option.{some, some-injective, some-ne-none}
use lib.ListN.{get_elem?}
use Rattle.std.specs.Prelude.{All, slice_index_or, vec_capacity}
use Rattle.std.specs.Global.{Global}
use Rattle.std.specs.declared.vec.Vec.{Vec}
use Rattle.atomic_table.specs.Table.{Me}
use Rattle.atomic_table.specs.declared.shared.Seat.{Seat}
use Rattle.xf_views.specs.declared.view.View.{View}
use Rattle.xf_views.specs.declared.view.Start.{Start}
use Rattle.xf_views.specs.Starts.{first_view}
use Rattle.xf_live.specs.Passes.{PassView, LiveView, IsSeatOf}
use Rattle.xf_live.specs.Ends.{AreNew, AreRooms, IsNew}

-- a seat's view at the beginning is told by its start and its next worker
pub as_first : {X : Type 0} (m : Me (Option X) View) (s : Start) (k n : ℕ) → m ≡ (first_view s k n, []) → m ≡ (first_view m.0.life.start k m.0.life.next, [])
as_first {X} m s k n e = subst (λ (m : Me (Option X) View). m ≡ (first_view m.0.life.start k m.0.life.next, [])) (sym e) refl

-- what holds of each element of a list and of one more
at_each : {A : Type 0} (P : ℕ → A → Type 0) (l : List A) (a : A) → ((k : ℕ) (b : A) → get_elem? l k ≡ some b → P k b) → P (length l) a → (k : ℕ) (b : A) → get_elem? (l ++ a ∷ []) k ≡ some b → P k b
at_each P [] a h n zero b e = subst (λ (b : _). P zero b) (some-injective a b e) n
at_each P [] a h n (suc k) b e = absurd (some-ne-none b (sym e))
at_each P (x ∷ xs) a h n zero b e = h zero b e
at_each P (x ∷ xs) a h n (suc k) b e = at_each (λ k b. P (suc k) b) xs a (λ k b. h (suc k) b) n k b e

module _ {X : Type 0} where
  -- the passes of the workers from 1 on
  abbrev pub AreOthers : LiveView → List (PassView X) → Type 0
  AreOthers l ps = (k : ℕ) (p : PassView X) → get_elem? ps k ≡ some p → IsNew l (suc k) p

  pub is_new : (l : LiveView) (k n : ℕ) (p : PassView X) (w : Seat (Option X) View) → w.table_id ≡ l.table → w.me ≡ (first_view l.start k n, []) → n ≡ (if k == 0 then l.start.seats else 0)
      → IsSeatOf p w → p.loads ≡ 0 → IsNew l k p
  is_new l k n p w at me next s loads = record {
    table = sym s.table ∙ at;
    view = ap (λ (m : Me (Option X) View). m.0) (sym s.me ∙ me) ∙ ap (λ (n : ℕ). first_view l.start k n) next;
    loads = loads;
    values = ap (λ (m : Me (Option X) View). m.1) (sym s.me ∙ me);
  }

  -- one more
  pub others_more : (l : LiveView) (ps qs : List (PassView X)) (p : PassView X) (k : ℕ) → AreOthers l ps → length ps + 1 ≡ k → IsNew l k p → qs ≡ ps ++ p ∷ [] → AreOthers l qs
  others_more l ps qs p k others count new is j q at =
      let n : k ≡ suc (length ps) = omega arith in
      at_each (λ j q. IsNew l (suc j) q) ps p others (subst (λ (k : ℕ). IsNew l k p) n new) j q (ap (λ (l : List (PassView X)). get_elem? l j) (sym is) ∙ at)

  -- and the first one
  pub all_new : (l : LiveView) (ps qs : List (PassView X)) (p : PassView X) → AreOthers l ps → length ps + 1 ≡ l.start.seats → IsNew l 0 p → qs ≡ p ∷ ps → AreNew l qs
  all_new l ps qs p others count new is = record {
    count = ap (λ (l : List (PassView X)). length l) is ∙ omega arith;
    each = λ k q at. by k q (ap (λ (l : List (PassView X)). get_elem? l k) (sym is) ∙ at);
  }
    where
      by : (k : ℕ) (q : PassView X) → get_elem? (p ∷ ps) k ≡ some q → IsNew l k q
      by zero q at = subst (λ (q : PassView X). IsNew l 0 q) (some-injective _ _ at) new
      by (suc k) q at = others k q at

-- what holds of all of a list and of its last element
pub without_last : {A : Type 0} (P : A → Type 0) (l : List A) (a : A) → All P (l ++ a ∷ []) → All P l × P a
without_last P [] a h = (λ k d lt. absurd (omega arith), h 0 a (omega arith))
without_last {A} P (x ∷ l) a h =
    let r = without_last P l a (λ k d lt. h (suc k) d (omega arith)) in
    (by r.0, r.1)
  where
    by : All P l → (k : ℕ) (d : A) → k < length (x ∷ l) → P (slice_index_or (x ∷ l) k d)
    by r zero d lt = h 0 d (omega arith)
    by r (suc k) d lt = r k d (omega arith)

-- a list was taken out of those that have room
pub room_taken : (count : ℕ) (old new : List (Vec ℕ Global)) (room : Vec ℕ Global) → old ≡ new ++ room ∷ [] → AreRooms count old → AreRooms count new × ((room.items ≡ []) × (count ≤ vec_capacity room))
room_taken count old new room e h =
    without_last (λ (v : Vec ℕ Global). (v.items ≡ []) × (count ≤ vec_capacity v)) new room (subst (λ (l : List (Vec ℕ Global)). AreRooms count l) e h)

-- only the first seat splits off others
pub not_first : (n s : ℕ) → 1 ≤ n → 0 ≡ (if n == 0 then s else 0)
not_first n s h = let e : (n == 0) ≡ false = grind (arith, nat_tests, h) in ap (λ (b : Bool). if b then s else 0) (sym e)
