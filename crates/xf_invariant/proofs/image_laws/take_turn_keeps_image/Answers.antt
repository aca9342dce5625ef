use Rattle.xf_invariant.proofs.ImageTurns.{take_keeps_image, miss_keeps_image}
use Rattle.xf_invariant.proofs.image_laws.take_turn_keeps_image.Goals as goal

pub returns : goal.returns
returns g c = record {
  taken = λ most base m slot listed. take_keeps_image g.T.Means.bucket_of g.T.Means.good base most m.made m.numbers m.owners m.log m.words m.settled m.views m.turn m.image m.seat m.view m.there m.here slot listed;
  missed = λ most base m. miss_keeps_image g.T.Means.bucket_of g.T.Means.good base most m.made m.numbers m.owners m.log m.words m.settled m.views m.turn m.image m.seat m.view m.there m.here;
}
