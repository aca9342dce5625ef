use Rattle.xf_legalpart.proofs.AgainRows.{begin_keeps_again}
use Rattle.xf_legalpart.proofs.again_laws.begin_keeps_again.Goals as goal

pub returns : goal.returns
returns g k = λ most base c. begin_keeps_again g.T.Means.bucket_of g.T.Means.good most base c
