use Rattle.xf_invariant.proofs.ImageReads.{load_keeps_image}
use Rattle.xf_invariant.proofs.image_laws.load_word_keeps_image.Goals as goal

pub returns : goal.returns
returns g c = λ most base m place. load_keeps_image g.T.Means.bucket_of g.T.Means.good base most m.made m.numbers m.owners m.log m.words m.settled m.views m.turn m.image m.seat m.view m.there m.here place
