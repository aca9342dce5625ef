-- From fields to the passing of time.
use Rattle.std.specs.Prelude.{List, Option, Some, Result, Ok, Err}
use Rattle.xf_types.specs.declared.call.Call.TheVariants.{Tick}
use Rattle.xf_types.specs.declared.status.Reason.{Reason}
use Rattle.xf_types.specs.declared.status.Reason.TheVariants.{Missing}
use Rattle.xf_grammar.specs.declared.row.Field.{Field}
use Rattle.xf_grammar.specs.declared.row.Slot.TheVariants as slot
use Rattle.xf_grammar.specs.declared.row.Value.{Value}
use Rattle.xf_grammar.specs.declared.row.Value.TheVariants as value
use Rattle.xf_grammar.specs.Lookups.{value_at}
use Rattle.xf_read.specs.declared.reader.Item.{Item}
use Rattle.xf_read.specs.declared.reader.Item.TheVariants.{TickNow, One}

-- time goes on to what the clock says, or to a number; one of the two is required
abbrev pub tick_to : Option Value → Result Item Reason
tick_to (Some value.Now) = Ok TickNow
tick_to (Some (value.U64 now)) = Ok (One (Tick now))
tick_to _ = Err Missing

-- the time that a line gives
abbrev pub tick_of : List Field → Result Item Reason
tick_of fs = tick_to (value_at slot.Time fs)
