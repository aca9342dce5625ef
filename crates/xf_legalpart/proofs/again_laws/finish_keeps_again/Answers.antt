use Rattle.xf_legalpart.proofs.AgainRows.{finish_keeps_again}
use Rattle.xf_legalpart.proofs.again_laws.finish_keeps_again.Goals as goal

pub returns : goal.returns
returns g k = λ most base c. finish_keeps_again g.T.Means.bucket_of g.T.Means.good most base c
