use Rattle.xf_views.specs.Views.{view_after_pin}
use Rattle.std.proofs.Common.{refl}
use Rattle.xf_stale.proofs.Stale.{pin_keeps}
use Rattle.xf_stale.proofs.laws.pin_keeps_stale.Goals as goal

pub returns : goal.returns
returns g c = λ most base start h pin. pin_keeps g.T.Means.bucket_of g.T.Means.good g.T.Lists.lists g.T.Means.id_place g.T.Pools.policies g.T.Pools.states g.met.T.Lists.listing g.met.T.Shows.shows most base start h (view_after_pin h.shift.scene.view pin) refl
