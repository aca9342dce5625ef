use Rattle.xf_views.proofs.Quiet.{pin_keeps}
use Rattle.xf_views.proofs.laws.unpin_keeps_turn.Goals as goal

pub returns : goal.returns
returns c = λ most m. pin_keeps most m.made m.numbers m.owners m.log m.views m.holds m.seat m.view m.there m.here 0
