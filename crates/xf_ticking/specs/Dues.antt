-- What is due for a state in a tick, and what becomes of its entry.
use Rattle.std.specs.Prelude.{ℕ, true, List, [], ◌∷◌, ◌++◌, Option, None, Some}
use Rattle.xf_types.specs.declared.call.Event.{Event}
use Rattle.xf_types.specs.declared.call.Event.TheVariants.{StateSoft}
use Rattle.xf_types.specs.declared.state.Sa.{Sa}
use Rattle.xf_types.specs.OneState.{dying_if}
use Rattle.xf_local.specs.View.{event_of}
use Rattle.xf_rows.specs.Values.{Beside, at}
use Rattle.xf_rows.specs.Ticks.{entry_later}
use Rattle.xf_ticking.specs.declared.due.Due.{Due}
use Rattle.xf_ticking.specs.declared.due.Due.TheVariants.{Nothing, Mark, Leave}

-- what is due, by what is reported
abbrev pub due_by : Option Event → Due
due_by None = Nothing
due_by (Some (StateSoft sid)) = Mark
due_by (Some other) = Leave

-- what is left of the entry
abbrev pub entry_by : Due → ℕ × Sa → List (ℕ × Sa)
entry_by Nothing e = e ∷ []
entry_by Mark e = (e.0, dying_if true e.1) ∷ []
entry_by Leave e = []

-- the entries that are left at a later time, by what the values of their slots report
abbrev pub entries_left : ℕ → Beside → List (ℕ × Sa) → List (ℕ × Sa)
entries_left now b [] = []
entries_left now b (e ∷ es) = entry_later (event_of now (at b e.0)) e ++ entries_left now b es
