use Rattle.xf_ownpart.proofs.OwnReads.{look_keeps_own, settle_keeps_own}
use Rattle.xf_ownpart.proofs.laws.load_generation_keeps_own.Goals as goal

pub returns : goal.returns
returns g c = record {
  blank = λ most base start w. look_keeps_own g.T.Means.bucket_of g.T.Means.good g.T.Lists.lists g.met.T.Lists.listing most base start w;
  settled = λ most base start w x e trial same still may covered. settle_keeps_own g.T.Means.bucket_of g.T.Means.good g.T.Lists.lists g.met.T.Lists.listing most base start w x trial same e still may covered;
}
