use Rattle.xf_invariant.proofs.Beginnings.{pins_begin}
use Rattle.xf_invariant.proofs.pin_laws.pins_begin.Goals as goal

pub returns : goal.returns
returns g c = pins_begin g.T.Means.id_place
