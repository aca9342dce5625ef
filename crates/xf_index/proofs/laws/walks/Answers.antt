use Rattle.xf_index.proofs.Walked.{before_walked, last_walked, found_back}
use Rattle.xf_index.proofs.laws.walks.Goals as goal

pub returns : goal.returns
returns g c = record {
  before = before_walked;
  passing = last_walked;
  from_last = found_back;
}
