-- A table and a pass as contracts see them.
use Rattle.std.specs.Prelude.{◌≡◌, ℕ, ◌==◌, if◌then◌else◌, true, false, List, [], Option, None}
use Rattle.atomic_table.specs.Table.{Me}
use Rattle.atomic_table.specs.Seated.{TableId}
use Rattle.atomic_table.specs.declared.shared.Seat.{Seat}
use Rattle.xf_views.specs.declared.view.View.{View}
use Rattle.xf_views.specs.declared.view.Start.{Start}
use Rattle.xf_views.specs.declared.view.LifeView.{LifeView}

-- which table it is, how it began, and how many image words it has
pub record LiveView : Type 0 where
  pub table : TableId
  pub start : Start
  pub count : ℕ

-- a pass's table; what its seat knows, with its own receipts; for how many receipts it has room; how many words it loaded; and the values
-- of the slots whose turns it has
pub record PassView (X : Type 0) : Type 0 where
  pub table : TableId
  pub view : View
  pub room : ℕ
  pub loads : ℕ
  pub values : List (ℕ × Option X)

-- where the seat of a worker comes from: the first one splits off the others
abbrev pub life_of : Start → ℕ → LifeView
life_of start k = record { start = start; next = if k == 0 then start.seats else 0; gathered = [] }

-- a seat that holds nothing and began nothing
pub record IsIdle (v : View) : Type 0 where
  pub ticket : v.hand.ticket ≡ None
  pub turn : v.hand.has_turn ≡ false
  pub shut : v.hand.writing ≡ false
  pub drawn : v.hand.drawn ≡ false
  pub trial : v.hand.trial ≡ None
  pub slots : v.own.turns ≡ []

module _ {X : Type 0} where
  -- the pass is one of this table
  pub record IsHere (l : LiveView) (p : PassView X) : Type 0 where
    pub table : p.table ≡ l.table
    pub life : p.view.life ≡ life_of l.start p.view.worker

  -- the pass when its seat knows this
  abbrev pub knowing : PassView X → View → PassView X
  knowing p v = record p { view = v }

  -- the pass with these values
  abbrev pub holding : PassView X → List (ℕ × Option X) → PassView X
  holding p values = record p { values = values }

  -- what its seat knows, and the values
  abbrev pub me_of : PassView X → Me (Option X) View
  me_of p = (p.view, p.values)

  -- a step of its seat leaves the rest of the pass
  pub record IsKept (p q : PassView X) : Type 0 where
    pub table : q.table ≡ p.table
    pub room : q.room ≡ p.room
    pub loads : q.loads ≡ p.loads

  -- the seat is the pass's, and is there
  pub record IsSeatOf (p : PassView X) (w : Seat (Option X) View) : Type 0 where
    pub table : w.table_id ≡ p.table
    pub me : w.me ≡ me_of p
    pub here : w.me.0.here ≡ true
