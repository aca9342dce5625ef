-- The numbers stay small: 16 seats at most, each of which draws so often at most.
use Rattle.std.specs.Prelude.{ℕ, ◌+◌, ◌*◌, ◌≤◌, List}
use Rattle.xf_views.specs.declared.view.View.{View}
use Rattle.xf_views.specs.Log.{Numbers, Mark, moves, AreBelow}
use Rattle.xf_views.specs.TurnPart.{TurnPart}

pub record IsSmall (most : ℕ) (n : Numbers) (log : List Mark) : Type 0 where
  pub draws : n.ticket + n.draw ≤ 16 * most
  pub serving : n.serving ≤ 16 * most
  pub generation : n.generation ≤ 32 * most + 1
  -- the moves' numbers were drawn
  pub moves : AreBelow n.draw (moves log)

abbrev pub NumbersAreSmall : Type 0
NumbersAreSmall =
    (most made : ℕ) (n : Numbers) (owners : List ℕ) (log : List Mark) (views : List View) → TurnPart most made n owners log views → IsSmall most n log
