-- The row that a lookup found.
use Rattle.std.specs.Prelude.{◌≡◌, ℕ, Bool, true, List, ◌∷◌, ◌++◌, Option, Some}
use Rattle.xf_types.specs.declared.state.Sa.{Sa}
use Rattle.xf_types.specs.Machine.{Machine}
use Rattle.xf_types.specs.OwnParts.{own_in}
use Rattle.xf_rows.specs.Rows.{Row, value_of}
use Rattle.xf_rows.specs.Values.{Beside, at}

-- the row stands between others
pub record IsRow (rows : List Row) (r : Row) : Type 0 where
  pub front : List Row
  pub back : List Row
  pub whole : rows ≡ front ++ (r ∷ back)

-- The slot is that of a listed state which passes the test, with its own part; the value there is its value, where its turn is held.
pub record FoundAt (b : Beside) (m : Machine) (rows : List Row) (test : Sa → Bool) (slot : ℕ) (found : Option Sa) : Type 0 where
  pub row : Row
  pub place : IsRow rows row
  pub slot_is : row.0 ≡ slot
  pub passes : test row.1.0 ≡ true
  pub state : found ≡ Some row.1.0
  pub own : own_in m row.1.0 ≡ row.1.1
  pub value : b.held slot ≡ true → at b slot ≡ value_of m.shown.time row
