use Rattle.xf_legalpart.proofs.Honesty.{move_is_legal, still_is_legal, trial_is_legal, send_is_legal, want_is_legal}
use Rattle.xf_legalpart.proofs.laws.honest_receipts.Goals as goal

pub returns : goal.returns
returns g c = record {
  moving = λ most base start w. move_is_legal g.T.Means.bucket_of g.T.Means.good g.T.Lists.lists g.met.T.Lists.listing most base start w;
  still = λ most base start w. still_is_legal g.T.Means.bucket_of g.T.Means.good g.T.Lists.lists g.met.T.Lists.listing most base start w;
  trial = λ most base start w. trial_is_legal g.T.Means.bucket_of g.T.Means.good g.T.Lists.lists g.met.T.Lists.listing most base start w;
  send = λ most base start w. send_is_legal g.T.Means.bucket_of g.T.Means.good g.T.Lists.lists g.met.T.Lists.listing most base start w;
  wants = want_is_legal;
}
