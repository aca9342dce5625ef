-- The first seat: all parts hold when it alone is there.
use Rattle.std.specs.Prelude.{◌≡◌, ℕ, List, [], ◌∷◌, Option}
use mathlib.Core.Option.{some}
use lib.ListN.{get_elem?}
use Rattle.xf_types.specs.declared.state.Sa.{Sa}
use Rattle.xf_types.specs.Machine.{Machine}
use Rattle.xf_types.specs.Standing.{Standing}
use Rattle.xf_views.specs.declared.view.View.{View}
use Rattle.xf_views.specs.declared.view.Start.{Start}
use Rattle.xf_views.specs.Starts.{first_view, first_numbers}
use Rattle.xf_views.specs.TurnPart.{TurnPart}
use Rattle.xf_invariant.specs.Meaning.{Told}
use Rattle.xf_invariant.specs.ImagePart.{ImagePart}
use Rattle.xf_ownpart.specs.OwnPart.{OwnPart, listed_at, standing_of}
use Rattle.xf_seats.specs.LifePart.{LifePart}

-- worker 0, which splits off worker 1 next
abbrev pub one_seat : Start → List View
one_seat start = first_view start 0 1 ∷ []

abbrev pub OneSeatTurn : Type 0
OneSeatTurn = (most : ℕ) (start : Start) → TurnPart most 1 first_numbers [] [] (one_seat start)

abbrev pub OneSeatLife : Type 0
OneSeatLife = (start : Start) → LifePart 1 start [] (one_seat start)

abbrev pub OneSeatImage : (Sa → ℕ) → (List ℕ → Told → Type 0) → Type 0
OneSeatImage bucket_of good = (base : List ℕ) (start : Start) → ImagePart bucket_of good base 0 [] base base (one_seat start)

-- where each value whose slot's turn is free stands for what the words list there
abbrev pub OneSeatOwn : (List ℕ → ℕ → Option (Sa × ℕ)) → Type 0
OneSeatOwn lists =
    (machine : Machine) (base turns : List ℕ) (home : ℕ → Standing) (start : Start)
    → ((slot : ℕ) → get_elem? turns slot ≡ some 0 → home slot ≡ standing_of (listed_at lists machine base slot))
    → OwnPart lists machine base turns [] home (one_seat start)
