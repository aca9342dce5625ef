-- A table, and the seats that fit it.
use Rattle.std.specs.Prelude.{◌≡◌, true, Option}
use Rattle.atomic_table.specs.Seated.{TableId}
use Rattle.atomic_table.specs.declared.shared.Seat.{Seat}
use Rattle.xf_types.specs.Standing.{Standing}
use Rattle.xf_views.specs.declared.view.View.{View}
use Rattle.xf_views.specs.declared.view.Start.{Start}
use Rattle.xf_table.specs.declared.table.Table.{Table}
use Rattle.xf_table.specs.Rule.{start_of}

module _ {T : Type 0} where
  abbrev pub id_of : Table T → TableId
  id_of t = t.base.shared.table_id

  -- the start of the table
  abbrev pub first_of : (T → Standing) → Table T → Start
  first_of standing t = start_of standing t.base.shared.key

  -- the seat is one of this table, is there, and knows how it began
  pub record IsAt (standing : T → Standing) (t : Table T) (p : Seat (Option T) View) : Type 0 where
    pub table : p.table_id ≡ id_of t
    pub here : p.me.0.here ≡ true
    pub start : p.me.0.life.start ≡ first_of standing t
