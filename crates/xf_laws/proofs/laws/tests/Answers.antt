use Rattle.xf_types.proofs.Decisions.{Decides-is_same}
use Rattle.xf_laws.proofs.TestLemmas.{Decides-in_prefix, Decides-matches, Decides-applies}
use Rattle.xf_laws.proofs.laws.tests.Goals as goal

pub returns : goal.returns
returns c = record {
  prefix = Decides-in_prefix;
  selector = Decides-matches;
  same = Decides-is_same;
  applying = Decides-applies;
}
