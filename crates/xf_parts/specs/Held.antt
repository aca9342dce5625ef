-- Values in memory, on one thread.
use Rattle.std.specs.Prelude.{ℕ, true, List, replicate}
use Rattle.xf_local.specs.View.{LocalView, Dead}
use Rattle.xf_rows.specs.Values.{Beside}

-- these values, and the turn of each slot
abbrev pub all_held : List LocalView → Beside
all_held values = record { held = λ slot. true; values = values }

-- so many dead values
abbrev pub all_dead : ℕ → List LocalView
all_dead count = replicate count Dead
