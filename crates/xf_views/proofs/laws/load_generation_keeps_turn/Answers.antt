use Rattle.xf_views.proofs.Generations.{look_keeps, settle_keeps}
use Rattle.xf_views.proofs.laws.load_generation_keeps_turn.Goals as goal

pub returns : goal.returns
returns c = record {
  blank = λ most m turns. look_keeps most m.made m.numbers m.owners m.log m.views m.holds m.seat m.view m.there m.here turns;
  settled = λ most m x sid e turns trial stays. settle_keeps most m.made m.numbers m.owners m.log m.views m.holds m.seat m.view m.there m.here x sid e turns trial stays;
}
