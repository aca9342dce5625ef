use Rattle.xf_invariant.proofs.ImageDraws.{move_keeps_image, still_keeps_image, trial_keeps_image}
use Rattle.xf_invariant.proofs.image_laws.draw_keeps_image.Goals as goal

pub returns : goal.returns
returns g c = record {
  moving = λ most base m sid e turns turn opens yet none moves honest. move_keeps_image g.T.Means.bucket_of g.T.Means.good base most m.made m.numbers m.owners m.log m.words m.settled m.views m.turn m.image m.seat m.view m.there m.here sid e turns turn opens yet none moves honest;
  still = λ most base m sid e turns shut none stays. still_keeps_image g.T.Means.bucket_of g.T.Means.good base most m.made m.numbers m.owners m.log m.words m.settled m.views m.turn m.image m.seat m.view m.there m.here sid e turns shut none stays;
  trial = λ most base m none. trial_keeps_image g.T.Means.bucket_of g.T.Means.good base most m.made m.numbers m.owners m.log m.words m.settled m.views m.turn m.image m.seat m.view m.there m.here none;
}
