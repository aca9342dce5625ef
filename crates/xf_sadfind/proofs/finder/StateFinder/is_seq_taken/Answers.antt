use Rattle.std.proofs.Common.{ap, ◌∙◌}
use Rattle.std.specs.Option.{is_some}
use Rattle.xf_sadidx.specs.Queries.{has_seq}
use Rattle.xf_sadfind.proofs.Asks.{latest_any}
use Rattle.xf_sadfind.proofs.finder.StateFinder.is_seq_taken.Goals as goal

pub returns-clause-state : goal.returns-clause-state
returns-clause-state g c = λ image entries agrees st records.
    c.is_some.ensures ∙ ap is_some (c.by_seq-slot.ensures.state image entries agrees st records) ∙ latest_any (has_seq c.args.seq) entries
