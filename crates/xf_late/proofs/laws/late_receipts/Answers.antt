use Rattle.xf_late.proofs.Late.{late-legal, late-own}
use Rattle.xf_late.proofs.laws.late_receipts.Goals as goal

pub returns : goal.returns
returns c = record {
  legal = late-legal;
  own = λ t before after r x is late legal here. late-own t before after r is late legal x here;
}
