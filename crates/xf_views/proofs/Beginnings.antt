-- The turn part holds at the beginning.
use Rattle.std.proofs.Common.{◌≡◌, ℕ, zero, suc, ◌<◌, ◌≤◌, true≢false, [], ◌∷◌, length, refl, sym, ap, ◌∙◌, subst, arith, length-append, ⊎_elim}
use mathlib.Core.Option.{some, some-ne-none}
use lib.ListN.{get_elem?}
use Rattle.xf_views.specs.declared.view.View.{View}
use Rattle.xf_views.specs.declared.view.Start.{Start}
use Rattle.xf_views.specs.Starts.{first_view, first_views, first_numbers}
use Rattle.xf_views.specs.TurnPart.{IsInTurn, TurnPart}
use Rattle.xf_views.proofs.Lists.{at_end, at_longer}

first_views-length : (start : Start) (n : ℕ) → length (first_views start n) ≡ n
first_views-length start zero = refl
first_views-length start (suc n) = length-append (first_views start n) (first_view start n 0 ∷ []) ∙ (let h = first_views-length start n in omega arith)

-- each seat is the one with its number
pub at_first : (start : Start) (n i : ℕ) (v : View) → get_elem? (first_views start n) i ≡ some v → (i < n) × (v ≡ first_view start i 0)
at_first start zero i v e = absurd (some-ne-none v (sym e))
at_first start (suc n) i v e = ⊎_elim
    (λ (t : (get_elem? (first_views start n) i ≡ some v) × (i < length (first_views start n))). let h = at_first start n i v t.0 in (let low = h.0 in omega arith, h.1))
    (λ (t : (first_view start n 0 ≡ v) × (i ≡ length (first_views start n))).
    let same : i ≡ n = t.1 ∙ first_views-length start n in
    (omega arith, sym t.0 ∙ ap (λ k. first_view start k 0) (sym same)))
    (at_end (first_views start n) (first_view start n 0) v i e)

pub first_there : (start : Start) (n : ℕ) → 1 ≤ n → get_elem? (first_views start n) 0 ≡ some (first_view start 0 0)
first_there start zero h = absurd (omega arith)
first_there start (suc zero) h = refl
first_there start (suc (suc n)) h = at_longer (first_views start (suc n)) (first_view start (suc n) 0 ∷ []) 0 (first_view start 0 0) (first_there start (suc n) (omega arith))

pub turn_begins : (most made : ℕ) (start : Start) → 1 ≤ made → made ≤ 16 → TurnPart most made first_numbers [] [] (first_views start made)
turn_begins most made start some_seat few = record {
  few = few;
  tickets = refl;
  draws = refl;
  served = omega arith;
  owners_made = λ t k e. absurd (some-ne-none k (sym e));
  marks_made = λ x m e. absurd (some-ne-none m (sym e));
  low = λ k. omega arith;
  numbered = λ x m r e q. absurd (some-ne-none m (sym e));
  one_seat = λ i j v w e f h g same.
      let a = (at_first start made i v e).1 in
      let b = (at_first start made j w f).1 in
      sym (ap (λ (z : View). z.worker) a) ∙ (same ∙ ap (λ (z : View). z.worker) b);
  even = λ h. refl;
  odd = λ h. absurd (omega arith);
  longest = (0, first_view start 0 0, first_there start made some_seat, refl, refl);
  each = λ i v e h. let a = at_first start made i v e in subst (IsInTurn made first_numbers [] []) (sym a.1) (fits i a.0);
}
  where
    fits : (i : ℕ) → i < made → IsInTurn made first_numbers [] [] (first_view start i 0)
    fits i low = record {
      worker = low;
      count = refl;
      ticket = λ t q. absurd (cc);
      turn = λ q. absurd (true≢false (sym q));
      writes = λ q. absurd (true≢false (sym q));
      shut = λ q. refl;
      seen = ([], refl);
      mine = refl;
      trial = λ x q. absurd (cc);
    }
