use Rattle.xf_laws.proofs.RemovalLemmas.{call-stays, receipt-removes, history-removes}
use Rattle.xf_laws.proofs.laws.removals.Goals as goal

pub returns : goal.returns
returns c = record { step = call-stays; receipt = receipt-removes; history = history-removes }
