use Rattle.std.proofs.Common.{ap, ◌∙◌}
use Rattle.std.specs.Option.{is_some}
use Rattle.xf_index.specs.Indexes.{records_in}
use Rattle.xf_sadidx.specs.Queries.{has_number}
use Rattle.xf_sadfind.proofs.Asks.{latest_any, number_taken}
use Rattle.xf_sadfind.proofs.finder.StateFinder.is_spi_taken.Goals as goal

pub returns-clause-state : goal.returns-clause-state
returns-clause-state g c = λ image entries agrees st records.
    let spec = c.args.spec.now in
    c.is_some.ensures ∙ ap is_some (c.by_number-slot.ensures.state image entries agrees st records)
    ∙ latest_any (has_number spec.dst spec.proto c.args.spi) entries ∙ number_taken spec c.args.spi (records_in entries)
