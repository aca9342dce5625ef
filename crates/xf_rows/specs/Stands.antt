-- When words and values stand for a machine.
use Rattle.std.specs.Prelude.{◌≡◌, ℕ, List, length, slice_index}
use Rattle.xf_types.specs.declared.policy.Policy.{Policy}
use Rattle.xf_types.specs.Machine.{Machine, Shown}
use Rattle.xf_types.specs.IsMachine.{IsMachine}
use Rattle.xf_inexact.specs.Whole.{SpdStands}
use Rattle.xf_sadimage.specs.States.{StatesStand}
use Rattle.xf_rows.specs.declared.layout.Layout.{Layout}
use Rattle.xf_rows.specs.Rows.{Row, entries_in, states_in, own_parts}
use Rattle.xf_rows.specs.Values.{Beside, AreValues}

-- The words stand for what the machine shows, with these policies and these rows in their slots, and the values for the own parts of
-- those states whose turn is held. All that holds of every machine holds of this one.
pub record Stands (layout : Layout) (image : List ℕ) (b : Beside) (m : Machine) : Type 0 where
  pub policies : List (ℕ × Policy)
  pub rows : List Row
  pub on_policies : SpdStands layout.policies image m.shown policies
  pub on_states : StatesStand layout.states image m.shown (entries_in rows)
  pub own : own_parts rows ≡ m.own
  pub time : slice_index image layout.clock ≡ m.shown.time
  pub values : AreValues b m.shown.time rows
  pub count : length b.values ≡ layout.states.slots
  pub machine : IsMachine m

-- what is shown with the states of these rows
abbrev pub shown_with : Shown → List Row → Shown
shown_with s rows = record s { states = states_in rows }

-- the machine that lists these rows
abbrev pub machine_with : Shown → List Row → Machine
machine_with s rows = record { shown = shown_with s rows; own = own_parts rows }
