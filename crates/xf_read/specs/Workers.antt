-- From fields to the worker of the lines that follow.
use Rattle.std.specs.Prelude.{List, Result, Ok}
use Rattle.xf_types.specs.declared.status.Reason.{Reason}
use Rattle.xf_grammar.specs.declared.row.Field.{Field}
use Rattle.xf_grammar.specs.declared.row.Slot.TheVariants as slot
use Rattle.xf_grammar.specs.Grammar.{◌>>=◌}
use Rattle.xf_grammar.specs.Lookups.{u32_at, required}
use Rattle.xf_read.specs.declared.reader.Item.{Item}
use Rattle.xf_read.specs.declared.reader.Item.TheVariants.{Worker}

-- the worker to which the lines that follow belong, which is required
unfoldable pub worker_of : List Field → Result Item Reason
worker_of fs = do
  worker ← required (u32_at slot.Worker fs)
  Ok (Worker worker)
