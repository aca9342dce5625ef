-- What the turn part says of the numbers and of any two seats.
use Rattle.std.specs.Prelude.{◌≡◌, ℕ, ◌+◌, ◌*◌, ◌/◌, ◌%◌, ◌<◌, ◌≤◌, ◌⊎◌, ◌↔◌, true, List, length, Some, None}
use mathlib.Core.Option.{some}
use lib.ListN.{get_elem?}
use Rattle.xf_views.specs.declared.view.View.{View}
use Rattle.xf_views.specs.Log.{Numbers, Mark, mark, receipts_of, moves, IsFront, AreBelow}
use Rattle.xf_views.specs.TurnPart.{one_if, SomeSeat, TurnPart}

-- the seat is there and knows this
pub record IsSeat (views : List View) (i : ℕ) (v : View) : Type 0 where
  pub there : get_elem? views i ≡ some v
  pub here : v.here ≡ true

pub record SaysTurn (most made : ℕ) (n : Numbers) (log : List Mark) (views : List View) : Type 0 where
  -- a held ticket is at least the one that is served and below the next one, and no two seats hold the same
  pub tickets : (i t : ℕ) (v : View) → IsSeat views i v → v.hand.ticket ≡ Some t
      → (n.serving ≤ t) × (t < n.ticket) × ((j : ℕ) (u : View) → IsSeat views j u → u.hand.ticket ≡ Some t → i ≡ j)
  -- a seat with the turn has the ticket that is served, and no other seat has the turn
  pub turn : (i : ℕ) (v : View) → IsSeat views i v → v.hand.has_turn ≡ true
      → (v.hand.ticket ≡ Some n.serving) × ((j : ℕ) (u : View) → IsSeat views j u → u.hand.has_turn ≡ true → i ≡ j)
  -- the generation is odd exactly while a seat is open
  pub odd : (n.generation % 2 ≡ 1) ↔ SomeSeat views (λ v. v.hand.writing ≡ true)
  -- the moves are half the generation, and one more while an open seat has drawn
  pub moves_even : n.generation % 2 ≡ 0 → length (moves log) ≡ n.generation / 2
  pub moves_odd : (i : ℕ) (v : View) → IsSeat views i v → v.hand.writing ≡ true → length (moves log) ≡ n.generation / 2 + one_if v.hand.drawn
  -- so a generation of 2 k or 2 k + 1 stands for the first k moves
  pub known : n.generation / 2 ≤ length (moves log)
  -- the numbers of receipts and of pending trials are below the draw word; a trial's has no receipt yet, and is no other seat's
  pub drawn : AreBelow n.draw (receipts_of log)
  pub trials : (i x : ℕ) (v : View) → IsSeat views i v → v.hand.trial ≡ Some x
      → (x < n.draw) × (get_elem? log x ≡ some (mark v.worker None None)) × ((j : ℕ) (u : View) → IsSeat views j u → u.hand.trial ≡ Some x → i ≡ j)
  -- of what two seats have seen one begins the other, and the longest is all moves
  pub seen : (i j : ℕ) (v u : View) → IsSeat views i v → IsSeat views j u → IsFront v.knows.seen u.knows.seen ⊎ IsFront u.knows.seen v.knows.seen
  pub longest : SomeSeat views (λ v. v.knows.seen ≡ moves log)
  -- no number is greater than what the seats may draw in all
  pub small : n.ticket + n.draw ≤ made * most

abbrev pub TurnSays : Type 0
TurnSays =
    (most made : ℕ) (n : Numbers) (owners : List ℕ) (log : List Mark) (views : List View)
    → TurnPart most made n owners log views → SaysTurn most made n log views
