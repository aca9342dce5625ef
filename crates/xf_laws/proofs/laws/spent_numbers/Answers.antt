use Rattle.xf_laws.proofs.SpentLemmas.{sid-calls, number-calls, sid-receipts, number-receipts}
use Rattle.xf_laws.proofs.laws.spent_numbers.Goals as goal

pub returns : goal.returns
returns c = record {
  sid_calls = sid-calls;
  number_calls = number-calls;
  sid_receipts = sid-receipts;
  number_receipts = number-receipts;
}
