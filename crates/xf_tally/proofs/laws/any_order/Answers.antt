use Rattle.xf_tally.proofs.Summaries.{summary-order}
use Rattle.xf_tally.proofs.laws.any_order.Goals as goal

pub returns : goal.returns
returns c = summary-order
