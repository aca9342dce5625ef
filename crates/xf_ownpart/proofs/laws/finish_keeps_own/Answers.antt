use Rattle.xf_views.specs.Views.{view_after_finish}
use Rattle.xf_ownpart.proofs.OwnSeats.{mine, quiet}
use Rattle.xf_ownpart.proofs.laws.finish_keeps_own.Goals as goal

pub returns : goal.returns
returns g c = λ most base start w. quiet g.T.Means.bucket_of g.T.Means.good g.T.Lists.lists g.met.T.Lists.listing most base start w (view_after_finish w.scene.view) (mine g.T.Means.bucket_of g.T.Means.good g.T.Lists.lists g.met.T.Lists.listing most base start w)
