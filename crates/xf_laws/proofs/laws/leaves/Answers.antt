use Rattle.xf_laws.proofs.LeaveLemmas.{call-still, call-whole, receipt-still, call-moved}
use Rattle.xf_laws.proofs.laws.leaves.Goals as goal

pub returns : goal.returns
returns c = record { still = call-still; whole = call-whole; receipt = receipt-still; moved = call-moved }
