-- The values of the slots, beside the words. Of a slot whose turn isn't held nothing is said.
use Rattle.std.specs.Prelude.{◌≡◌, ℕ, ◌<◌, Bool, true, List, All, get_or, slice_set, length}
use Rattle.xf_chain.specs.Lists.{Misses}
use Rattle.xf_index.specs.Indexes.{slots_in}
use Rattle.xf_local.specs.View.{LocalView, Dead}
use Rattle.xf_rows.specs.Rows.{Row, value_of}

-- which slots' turns are held, and the value of each slot
pub record Beside : Type 0 where
  pub held : ℕ → Bool
  pub values : List LocalView

-- the value of a slot
abbrev pub at : Beside → ℕ → LocalView
at b slot = get_or b.values slot Dead

-- with another value in a slot
abbrev pub value_put : Beside → ℕ → LocalView → Beside
value_put b slot v = record b { values = slice_set b.values slot v }

-- the slot has the row's value, where its turn is held
pub record Keeps (time : ℕ) (b : Beside) (r : Row) : Type 0 where
  pub value : b.held r.0 ≡ true → at b r.0 ≡ value_of time r

-- the values are those of the rows, and dead in all other slots
pub record AreValues (b : Beside) (time : ℕ) (rows : List Row) : Type 0 where
  pub live : All (Keeps time b) rows
  pub dead : (slot : ℕ) → slot < length b.values → b.held slot ≡ true → Misses slot (slots_in rows) → at b slot ≡ Dead
