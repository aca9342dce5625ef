-- Columns in words.
use Rattle.std.specs.Prelude.{ℕ, ◌+◌, ◌^◌, ◌<◌, ◌≤◌}
use Rattle.xf_chain.specs.declared.column.Column.{Column}

-- The words of a column lie in so many words.
pub record Spans (column : Column) (size : ℕ) : Type 0 where
  pub words : column.start + column.slots ≤ size
  pub fits : size < 2 ^ 32

-- the place of a slot's word
abbrev pub cell_of : Column → ℕ → ℕ
cell_of column slot = column.start + slot
