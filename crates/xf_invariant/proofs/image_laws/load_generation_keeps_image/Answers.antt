use Rattle.xf_invariant.proofs.ImageReads.{look_keeps_image, settle_keeps_image}
use Rattle.xf_invariant.proofs.image_laws.load_generation_keeps_image.Goals as goal

pub returns : goal.returns
returns g c = record {
  blank = λ most base m turns. look_keeps_image g.T.Means.bucket_of g.T.Means.good base most m.made m.numbers m.owners m.log m.words m.settled m.views m.turn m.image m.seat m.view m.there m.here turns;
  settled = λ most base m x sid e turns trial stays. settle_keeps_image g.T.Means.bucket_of g.T.Means.good base most m.made m.numbers m.owners m.log m.words m.settled m.views m.turn m.image m.seat m.view m.there m.here x sid e turns trial stays;
}
