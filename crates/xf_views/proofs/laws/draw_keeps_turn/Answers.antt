use Rattle.xf_views.proofs.Draws.{move_keeps, still_keeps, trial_keeps}
use Rattle.xf_views.proofs.laws.draw_keeps_turn.Goals as goal

pub returns : goal.returns
returns c = record {
  moving = λ most m sid e turns turn opens yet none room moves. move_keeps most m.made m.numbers m.owners m.log m.views m.holds m.seat m.view m.there m.here sid e turns turn opens yet none room moves;
  still = λ most m sid e turns shut none room stays. still_keeps most m.made m.numbers m.owners m.log m.views m.holds m.seat m.view m.there m.here sid e turns shut none room stays;
  trial = λ most m off none room. trial_keeps most m.made m.numbers m.owners m.log m.views m.holds m.seat m.view m.there m.here off none room;
}
