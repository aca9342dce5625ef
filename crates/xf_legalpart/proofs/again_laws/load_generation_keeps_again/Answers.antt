use Rattle.xf_legalpart.proofs.AgainRows.{blank_keeps_again, settled_keeps_again}
use Rattle.xf_legalpart.proofs.again_laws.load_generation_keeps_again.Goals as goal

pub returns : goal.returns
returns g k = record {
  blank = λ most base c. blank_keeps_again g.T.Means.bucket_of g.T.Means.good most base c;
  settled = λ most base c. settled_keeps_again g.T.Means.bucket_of g.T.Means.good most base c;
}
