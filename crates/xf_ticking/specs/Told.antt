-- What values report.
use Rattle.std.specs.Prelude.{ℕ, List, filter_map}
use Rattle.xf_types.specs.declared.call.Event.{Event}
use Rattle.xf_local.specs.View.{event_of}
use Rattle.xf_rows.specs.Values.{Beside, at}

-- the events at a time of the values in these slots
abbrev pub told : ℕ → Beside → List ℕ → List Event
told now b slots = filter_map (λ slot. event_of now (at b slot)) slots
