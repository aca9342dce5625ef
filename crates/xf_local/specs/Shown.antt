-- The value's fields and the answers of the code, as contracts see them.
use Rattle.std.specs.Prelude.{Option, None, Some}
use Rattle.xf_local.specs.declared.listed.Listed.{Listed}
use Rattle.xf_local.specs.View.{LiveView, LocalView, Dead, Live}

-- a listed state with its time
abbrev pub live_of : Listed → LiveView
live_of l = record { state = l.held.state; own = l.held.own; time = l.time }

-- a listed state, or none
abbrev pub local_of : Option Listed → LocalView
local_of None = Dead
local_of (Some l) = Live (live_of l)
