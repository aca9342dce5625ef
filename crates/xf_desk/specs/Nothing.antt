-- No table, and no pass: what a marker type says in the place of those that a call picks.
use Rattle.std.specs.Prelude.{[]}
use Rattle.atomic_table.specs.Seated.{TableId}
use Rattle.xf_views.specs.declared.view.Start.{Start}
use Rattle.xf_views.specs.Starts.{first_view}
use Rattle.xf_values.specs.declared.state_value.StateValue.{StateValue}
use Rattle.xf_live.specs.Passes.{LiveView, PassView}

abbrev pub no_table : TableId
no_table = record { words = 0; slots = 0; views_name = 0; atom = 0; block = 0; offset = 0; slot_names = [] }

abbrev pub no_start : Start
no_start = record { seats = 0; policies = 0; states = 0; words = []; homes = [] }

abbrev pub no_live : LiveView
no_live = record { table = no_table; start = no_start; count = 0 }

abbrev pub no_pass : PassView StateValue
no_pass = record { table = no_table; view = first_view no_start 0 0; room = 0; loads = 0; values = [] }
