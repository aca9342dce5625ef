use Rattle.xf_invariant.proofs.ImageSayings.{image_says}
use Rattle.xf_invariant.proofs.image_laws.image_says.Goals as goal

pub returns : goal.returns
returns g c = λ most base m. image_says g.T.Means.bucket_of g.T.Means.good base most m.made m.numbers m.owners m.log m.words m.settled m.views m.turn m.image m.seat m.view m.there m.here
