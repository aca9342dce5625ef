-- The words of a layout lie in a row.
use Rattle.std.specs.Prelude.{ℕ, ◌<◌, ◌≤◌}
use Rattle.xf_inexact.specs.Whole.{WholeFits, whole_end}
use Rattle.xf_sadidx.specs.Layout.{Fits as StatesFit, end_of as states_end}
use Rattle.xf_rows.specs.declared.layout.Layout.{Layout}

-- Policies come before states, these before the time, and all lie in so many words.
pub record Fits (layout : Layout) (size : ℕ) : Type 0 where
  pub policies : WholeFits layout.policies size
  pub states : StatesFit layout.states size
  pub order : whole_end layout.policies ≤ layout.states.base
  pub behind : states_end layout.states ≤ layout.clock
  pub clock : layout.clock < size
