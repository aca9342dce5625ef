use Rattle.xf_views.specs.Views.{view_after_miss}
use Rattle.xf_ownpart.proofs.OwnSeats.{mine, quiet}
use Rattle.xf_ownpart.proofs.OwnTurns.{take_keeps_own}
use Rattle.xf_ownpart.proofs.laws.take_turn_keeps_own.Goals as goal

pub returns : goal.returns
returns g c = record {
  taken = λ most base start w. take_keeps_own g.T.Means.bucket_of g.T.Means.good g.T.Lists.lists g.met.T.Lists.listing most base start w;
  missed = λ most base start w. quiet g.T.Means.bucket_of g.T.Means.good g.T.Lists.lists g.met.T.Lists.listing most base start w (view_after_miss w.scene.view) (mine g.T.Means.bucket_of g.T.Means.good g.T.Lists.lists g.met.T.Lists.listing most base start w);
}
