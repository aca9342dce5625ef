use Rattle.xf_types.specs.StateList.{has_id}
use Rattle.xf_laws.proofs.LookupLemmas.{last-found, last-none, best-is, no-best}
use Rattle.xf_laws.proofs.laws.lookups.Goals as goal

pub returns : goal.returns
returns c = record {
  latest = λ states id x. last-found (has_id id) states x;
  no_match = λ states id. last-none (has_id id) states;
  best = best-is;
  no_best = no-best;
}
