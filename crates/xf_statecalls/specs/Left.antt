-- What words and values stand for once the state of a slot left.
use Rattle.std.specs.Prelude.{◌≡◌, ℕ, List, ◌++◌}
use Rattle.xf_types.specs.Machine.{Machine, Shown}
use Rattle.xf_rows.specs.declared.layout.Layout.{Layout}
use Rattle.xf_rows.specs.Rows.{Row}
use Rattle.xf_rows.specs.Values.{Beside}
use Rattle.xf_rows.specs.Finds.{IsRow}
use Rattle.xf_rows.specs.Stands.{Stands, machine_with}

-- They stand for a machine, and one of its states has the slot.
pub record RowAt (layout : Layout) (image : List ℕ) (b : Beside) (m : Machine) (slot : ℕ) : Type 0 where
  pub stands : Stands layout image b m
  pub row : Row
  pub place : IsRow stands.rows row
  pub slot_is : row.0 ≡ slot

-- The same of some machine.
pub record Occupied (layout : Layout) (image : List ℕ) (b : Beside) (slot : ℕ) : Type 0 where
  pub machine : Machine
  pub at : RowAt layout image b machine slot

-- They stand for these rows, and for what else is shown.
pub record StandsFor (layout : Layout) (image : List ℕ) (b : Beside) (s : Shown) (rows : List Row) : Type 0 where
  pub stands : Stands layout image b (machine_with s rows)
  pub rows_are : stands.rows ≡ rows

-- the rows around one
abbrev pub around : (rows : List Row) (x : Row) → IsRow rows x → List Row
around rows x place = place.front ++ place.back
