-- The summary with this reply is that of the receipts with one more.
use Rattle.std.proofs.Common.{◌∙◌, rules}
use Rattle.xf_tally.proofs.Summaries.{counted-next}
use Rattle.xf_tally.proofs.tally.Tally.add.Goals as goal

pub returns-clause-counted : goal.returns-clause-counted
returns-clause-counted c = search rules

pub returns-clause-summary : goal.returns-clause-summary
returns-clause-summary c = λ lines h r at_line of_reply is.
    returns-clause-counted c
    ∙ counted-next c.args.self.now c.args.line c.args.reply.now lines h r at_line of_reply is
