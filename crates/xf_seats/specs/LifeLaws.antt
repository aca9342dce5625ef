-- What is said of each step: it keeps the life part.
use Rattle.std.specs.Prelude.{◌≡◌, ℕ, true, List, [], ◌∷◌, ◌++◌, Option, Some}
use Rattle.std.proofs.Common.{set}
use Rattle.xf_types.specs.declared.call.Receipt.{Receipt}
use Rattle.xf_views.specs.declared.view.View.{View}
use Rattle.xf_views.specs.declared.view.Start.{Start}
use Rattle.xf_views.specs.Log.{Mark, mark}
use Rattle.xf_views.specs.TurnLaws.{Moment}
use Rattle.xf_seats.specs.LifePart.{LifePart}

-- the seat is the same one, and took in nothing
pub record IsSameLife (v w : View) : Type 0 where
  pub here : w.here ≡ true
  pub worker : w.worker ≡ v.worker
  pub life : w.life ≡ v.life

-- a moment at which the life part holds too
pub record Age (most : ℕ) : Type 0 where
  pub moment : Moment most
  pub start : Start
  pub life : LifePart moment.made start moment.log moment.views

-- the life part holds after a step after which these are the log and what the seat knows
abbrev pub HoldsAfter : (most : ℕ) → Age most → List Mark → View → Type 0
HoldsAfter most a log w = LifePart a.moment.made a.start log (set a.moment.views a.moment.seat w)

-- a step that leaves the log
abbrev pub QuietKeepsLife : Type 0
QuietKeepsLife = (most : ℕ) (a : Age most) (w : View) → IsSameLife a.moment.view w → HoldsAfter most a a.moment.log w

-- a draw, with a receipt or without
abbrev pub DrawKeepsLife : Type 0
DrawKeepsLife =
    (most : ℕ) (a : Age most) (one : Option ℕ) (o : Option Receipt) (w : View) → IsSameLife a.moment.view w
    → HoldsAfter most a (a.moment.log ++ mark a.moment.view.worker one o ∷ []) w

-- the end of a read at which the receipt of its trial comes to stand
abbrev pub SettleKeepsLife : Type 0
SettleKeepsLife =
    (most : ℕ) (a : Age most) (x : ℕ) (one : Option ℕ) (r : Receipt) (w : View) → a.moment.view.hand.trial ≡ Some x → IsSameLife a.moment.view w
    → HoldsAfter most a (set a.moment.log x (mark a.moment.view.worker one (Some r))) w
