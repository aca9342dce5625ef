use Rattle.xf_views.proofs.Quiet.{take_keeps, miss_keeps}
use Rattle.xf_views.proofs.laws.take_turn_keeps_turn.Goals as goal

pub returns : goal.returns
returns c = record {
  taken = λ most m slot listed. take_keeps most m.made m.numbers m.owners m.log m.views m.holds m.seat m.view m.there m.here slot listed;
  missed = λ most m. miss_keeps most m.made m.numbers m.owners m.log m.views m.holds m.seat m.view m.there m.here;
}
