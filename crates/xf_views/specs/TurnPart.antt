-- The turn part of what always holds: the turn, the numbers and the seen lists.
use Rattle.std.specs.Prelude.{◌≡◌, ◌≢◌, ℕ, ◌+◌, ◌/◌, ◌%◌, ◌<◌, ◌≤◌, Bool, true, false, List, length, Option, Some, None}
use mathlib.Core.Option.{some}
use lib.ListN.{get_elem?}
use Rattle.xf_types.specs.declared.call.Receipt.{Receipt}
use Rattle.xf_views.specs.declared.view.View.{View}
use Rattle.xf_views.specs.declared.view.Knowledge.{Knowledge}
use Rattle.xf_views.specs.Log.{Numbers, Mark, mark, moves, by_worker, tickets_of, marks_of, IsFront}

-- 1 where it is true
abbrev pub one_if : Bool → ℕ
one_if true = 1
one_if false = 0

-- what is said of one seat. A ticket that it holds is its own and at least the one that is served; it has the turn only where its ticket is the one
-- that is served. While it is open it has the turn, the generation is odd, and the moves are half of it and one more once it
-- drew. What it has seen is a front of the moves, its receipts are those of its worker, and the number of its trial has no
-- receipt yet and is the last one that it drew
pub record FitsTurn (made serving generation : ℕ) (owners : List ℕ) (log : List Mark) (k : ℕ) (slip : Option ℕ) (has opens drew : Bool) (late : Option ℕ) (known : Knowledge) : Type 0 where
  pub worker : k < made
  pub count : known.count ≡ tickets_of k owners + marks_of k log
  pub ticket : (t : ℕ) → slip ≡ Some t → (serving ≤ t) × (get_elem? owners t ≡ some k)
  pub turn : has ≡ true → slip ≡ Some serving
  pub writes : opens ≡ true → (has ≡ true) × (generation % 2 ≡ 1) × (length (moves log) ≡ generation / 2 + one_if drew)
  pub shut : opens ≡ false → drew ≡ false
  pub seen : IsFront known.seen (moves log)
  pub mine : known.mine ≡ by_worker k log
  pub trial : (x : ℕ) → late ≡ Some x → (get_elem? log x ≡ some (mark k None None)) × ((y : ℕ) (m : Mark) → x < y → get_elem? log y ≡ some m → m.by ≢ k)

-- of a seat as it knows itself
abbrev pub IsInTurn : ℕ → Numbers → List ℕ → List Mark → View → Type 0
IsInTurn made n owners log v =
    FitsTurn made n.serving n.generation owners log v.worker v.hand.ticket v.hand.has_turn v.hand.writing v.hand.drawn v.hand.trial v.knows

-- some seat that is there is so
abbrev pub SomeSeat : List View → (View → Type 0) → Type 0
SomeSeat views P = (i : ℕ) × (v : View) × (get_elem? views i ≡ some v) × (v.here ≡ true) × P v

-- no seat drew more often than most. The owners are the workers that drew the tickets, in order; the log has a mark for each number of
-- the draw word. A seat that was taken in by another isn't there and is left out
pub record TurnPart (most made : ℕ) (n : Numbers) (owners : List ℕ) (log : List Mark) (views : List View) : Type 0 where
  pub few : made ≤ 16
  pub tickets : length owners ≡ n.ticket
  pub draws : length log ≡ n.draw
  pub served : n.serving ≤ n.ticket
  pub owners_made : (t k : ℕ) → get_elem? owners t ≡ some k → k < made
  pub marks_made : (x : ℕ) (m : Mark) → get_elem? log x ≡ some m → m.by < made
  pub low : (k : ℕ) → tickets_of k owners + marks_of k log ≤ most
  -- a receipt has the number at which it stands, and the worker that drew it
  pub numbered : (x : ℕ) (m : Mark) (r : Receipt) → get_elem? log x ≡ some m → m.receipt ≡ Some r → (r.number ≡ x) × (r.worker ≡ m.by)
  pub one_seat : (i j : ℕ) (v w : View) → get_elem? views i ≡ some v → get_elem? views j ≡ some w → v.here ≡ true → w.here ≡ true → v.worker ≡ w.worker → i ≡ j
  -- even: the moves are half the generation; odd: some seat is open
  pub even : n.generation % 2 ≡ 0 → length (moves log) ≡ n.generation / 2
  pub odd : n.generation % 2 ≡ 1 → SomeSeat views (λ v. v.hand.writing ≡ true)
  -- some seat has seen all moves
  pub longest : SomeSeat views (λ v. v.knows.seen ≡ moves log)
  pub each : (i : ℕ) (v : View) → get_elem? views i ≡ some v → v.here ≡ true → IsInTurn made n owners log v
