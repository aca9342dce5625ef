use Rattle.xf_legalpart.proofs.Legal.{stands_keeps_legal, waits_keeps_legal}
use Rattle.xf_legalpart.proofs.laws.draw_keeps_legal.Goals as goal

pub returns : goal.returns
returns g c = record {
  stands = λ most base start w. stands_keeps_legal g.T.Means.bucket_of g.T.Means.good g.T.Lists.lists most base start w;
  waits = λ most base start w. waits_keeps_legal g.T.Means.bucket_of g.T.Means.good g.T.Lists.lists most base start w;
}
