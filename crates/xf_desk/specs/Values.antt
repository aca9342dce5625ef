-- The values of the states' slots beside the words, by what a pass carries for the slots of the table.
use Rattle.std.specs.Prelude.{ℕ, zero, suc, ◌+◌, List, [], ◌∷◌, Option, None, Some}
use Rattle.xf_local.specs.View.{LocalView, Dead}
use Rattle.xf_rows.specs.Values.{Beside}
use Rattle.xf_views.specs.declared.view.Start.{Start}
use Rattle.xf_values.specs.declared.state_value.StateValue.{StateValue}
use Rattle.xf_live.specs.Values.{holds, home_at}

-- a value that isn't at home counts as a dead one
abbrev pub value_or_dead : Option (Option StateValue) → LocalView
value_or_dead None = Dead
value_or_dead (Some None) = Dead
value_or_dead (Some (Some v)) = v.local

-- the value of a slot of the table
abbrev pub value_of : List (ℕ × Option StateValue) → ℕ → LocalView
value_of values slot = value_or_dead (home_at values slot)

-- the values of so many slots from a first one on
abbrev pub values_from : (ℕ → LocalView) → ℕ → ℕ → List LocalView
values_from value first zero = []
values_from value first (suc n) = value first ∷ values_from value (first + 1) n

-- which slots' turns a pass has that carries these, and the values of the states' slots, which come behind those of the policies
abbrev pub beside_of : Start → List (ℕ × Option StateValue) → Beside
beside_of start carried =
    record { held = λ slot. holds carried (start.policies + slot); values = values_from (value_of carried) start.policies start.states }
