use Rattle.xf_views.proofs.Quiet.{give_keeps}
use Rattle.xf_views.proofs.laws.give_turn_keeps_turn.Goals as goal

pub returns : goal.returns
returns c = λ most m slot. give_keeps most m.made m.numbers m.owners m.log m.views m.holds m.seat m.view m.there m.here slot
