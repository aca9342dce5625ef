use Rattle.xf_views.specs.Views.{view_after_serving}
use Rattle.xf_ownpart.proofs.OwnSeats.{mine, quiet}
use Rattle.xf_ownpart.proofs.laws.serving_keeps_own.Goals as goal

pub returns : goal.returns
returns g c = λ most base start w serving words. quiet g.T.Means.bucket_of g.T.Means.good g.T.Lists.lists g.met.T.Lists.listing most base start w (view_after_serving w.scene.view serving words) (mine g.T.Means.bucket_of g.T.Means.good g.T.Lists.lists g.met.T.Lists.listing most base start w)
