use Rattle.xf_legalpart.proofs.AgainRows.{stands_keeps_again, waits_keeps_again}
use Rattle.xf_legalpart.proofs.again_laws.draw_keeps_again.Goals as goal

pub returns : goal.returns
returns g k = record {
  stands = λ most base c. stands_keeps_again g.T.Means.bucket_of g.T.Means.good most base c;
  waits = λ most base c. waits_keeps_again g.T.Means.bucket_of g.T.Means.good most base c;
}
