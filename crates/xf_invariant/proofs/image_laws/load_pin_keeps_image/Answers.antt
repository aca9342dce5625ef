use Rattle.xf_invariant.proofs.ImageTurns.{load_pin_keeps_image}
use Rattle.xf_invariant.proofs.image_laws.load_pin_keeps_image.Goals as goal

pub returns : goal.returns
returns g c = λ most base m k pin. load_pin_keeps_image g.T.Means.bucket_of g.T.Means.good base most m.made m.numbers m.owners m.log m.words m.settled m.views m.turn m.image m.seat m.view m.there m.here k pin
