use Rattle.xf_legalpart.proofs.GivenUp.{still_gives_up, trial_gives_up}
use Rattle.xf_legalpart.proofs.again_laws.gives_up.Goals as goal

pub returns : goal.returns
returns g k = record {
  still = λ most base c. still_gives_up g.T.Means.bucket_of g.T.Means.good most base c;
  trial = λ most base c. trial_gives_up g.T.Means.bucket_of g.T.Means.good most base c;
}
