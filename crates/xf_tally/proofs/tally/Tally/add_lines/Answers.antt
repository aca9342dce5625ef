-- The summary with these lines is that of the same receipts.
use Rattle.std.proofs.Common.{◌+◌, ap, ◌∙◌}
use Rattle.xf_tally.specs.Summary.{Summary}
use Rattle.xf_tally.proofs.Summaries.{lines-more}
use Rattle.xf_tally.proofs.tally.Tally.add_lines.Goals as goal

pub returns-clause-summary : goal.returns-clause-summary
returns-clause-summary c = λ lines h is.
    ap (λ (s : Summary). record s { lines = s.lines + c.args.count }) (c.self.view_is ∙ is) ∙ lines-more lines c.args.count h
