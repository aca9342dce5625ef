-- The first seat alone.
use Rattle.std.proofs.Common.{◌≡◌, ℕ, zero, suc, ◌<◌, true, true≢false, List, [], length, Option, refl, sym, subst, arith}
use mathlib.Core.Option.{some, some-injective, some-ne-none}
use lib.ListN.{get_elem?}
use Rattle.xf_types.specs.declared.state.Sa.{Sa}
use Rattle.xf_types.specs.Machine.{Machine}
use Rattle.xf_types.specs.History.{machine_of}
use Rattle.xf_types.specs.Standing.{Standing}
use Rattle.xf_views.specs.declared.view.View.{View}
use Rattle.xf_views.specs.declared.view.Start.{Start}
use Rattle.xf_views.specs.Starts.{first_view, first_numbers}
use Rattle.xf_views.specs.TurnPart.{IsInTurn, TurnPart}
use Rattle.xf_invariant.specs.Meaning.{Told}
use Rattle.xf_invariant.specs.ImagePart.{IsInImage, ImagePart}
use Rattle.xf_ownpart.specs.OwnPart.{OwnPart, IsInOwn, listed_at, standing_of}
use Rattle.xf_seats.specs.LifePart.{FitsLife, LifePart}
use Rattle.xf_seats.specs.FirstSeat.{one_seat}

-- it is the only one
alone : (start : Start) (i : ℕ) (v : View) → get_elem? (one_seat start) i ≡ some v → (i ≡ 0) × (first_view start 0 1 ≡ v)
alone start zero v e = (refl, some-injective (first_view start 0 1) v e)
alone start (suc i) v e = absurd (some-ne-none v (sym e))

each_one : (start : Start) (P : View → Type 0) → P (first_view start 0 1) → (i : ℕ) (v : View) → get_elem? (one_seat start) i ≡ some v → v.here ≡ true → P v
each_one start P p i v e h = subst P (alone start i v e).1 p

pub one_seat_turn : (most : ℕ) (start : Start) → TurnPart most 1 first_numbers [] [] (one_seat start)
one_seat_turn most start = record {
  few = omega arith;
  tickets = refl;
  draws = refl;
  served = omega arith;
  owners_made = λ t k e. absurd (some-ne-none k (sym e));
  marks_made = λ x m e. absurd (some-ne-none m (sym e));
  low = λ k. omega arith;
  numbered = λ x m r e q. absurd (some-ne-none m (sym e));
  one_seat = λ i j v w e f h g same. let a = (alone start i v e).0 in let b = (alone start j w f).0 in omega arith;
  even = λ h. refl;
  odd = λ h. absurd (omega arith);
  longest = (0, first_view start 0 1, refl, refl, refl);
  each = each_one start (IsInTurn 1 first_numbers [] []) record {
    worker = omega arith;
    count = refl;
    ticket = λ t q. absurd (cc);
    turn = λ q. absurd (true≢false (sym q));
    writes = λ q. absurd (true≢false (sym q));
    shut = λ q. refl;
    seen = ([], refl);
    mine = refl;
    trial = λ x q. absurd (cc);
  };
}

pub one_seat_life : (start : Start) → LifePart 1 start [] (one_seat start)
one_seat_life start = record {
  each = each_one start (λ u. FitsLife 1 start [] u.worker u.life) record {
    start_is = refl;
    makes = λ h. (refl, refl);
    took = λ k l e. absurd (some-ne-none l (sym e));
  };
  gone = λ i j v u e f h g some_in. absurd (each_one start (λ (z : View). 0 < 0 → ⊥) (λ q. omega arith) i v e h (subst (λ (z : View). 0 < length z.life.gathered → 0 < 0) (alone start i v e).1 (λ q. q) some_in));
}

pub one_seat_image : (bucket_of : Sa → ℕ) (good : List ℕ → Told → Type 0) (base : List ℕ) (start : Start) → ImagePart bucket_of good base 0 [] base base (one_seat start)
one_seat_image bucket_of good base start = record {
  stands = λ t o. o.3;
  calm = λ h. refl;
  each = each_one start (IsInImage 0 [] base base) record {
    image = λ h. absurd (true≢false (sym h));
    settled = λ h. absurd (true≢false (sym h));
    read = λ g h. absurd (cc);
    trial = λ x g h. absurd (cc);
  };
}

pub one_seat_own : (lists : List ℕ → ℕ → Option (Sa × ℕ)) (machine : Machine) (base turns : List ℕ) (home : ℕ → Standing) (start : Start)
    → ((slot : ℕ) → get_elem? turns slot ≡ some 0 → home slot ≡ standing_of (listed_at lists machine base slot))
    → OwnPart lists machine base turns [] home (one_seat start)
one_seat_own lists machine base turns home start values = record {
  marked = tt;
  free = values;
  each = each_one start (IsInOwn lists (machine_of machine []) base turns []) (λ e has. absurd (some-ne-none e (sym has.1)));
}
