-- Listed states, each with the slot of its words, its record and its own part.
use Rattle.std.specs.Prelude.{ℕ, Bool, List, [], ◌∷◌}
use Rattle.xf_types.specs.declared.state.Sa.{Sa}
use Rattle.xf_types.specs.Machine.{Own}
use Rattle.xf_index.specs.Indexes.{records_in}
use Rattle.xf_local.specs.View.{LocalView, Live}

-- a slot, the record there, and the own part there
abbrev pub Row : Type 0
Row = ℕ × (Sa × Own)

-- the slots with their records: what the words of the states tell
abbrev pub entries_in : List Row → List (ℕ × Sa)
entries_in [] = []
entries_in (r ∷ rows) = (r.0, r.1.0) ∷ entries_in rows

-- the records
abbrev pub states_in : List Row → List Sa
states_in rows = records_in (entries_in rows)

-- the own parts
abbrev pub own_parts : List Row → List Own
own_parts [] = []
own_parts (r ∷ rows) = r.1.1 ∷ own_parts rows

-- the value of a row's slot at a time
abbrev pub value_of : ℕ → Row → LocalView
value_of time r = Live (record { state = r.1.0; own = r.1.1; time = time })

-- a row's state passes a test
abbrev pub on_row : (Sa → Bool) → Row → Bool
on_row test r = test r.1.0
