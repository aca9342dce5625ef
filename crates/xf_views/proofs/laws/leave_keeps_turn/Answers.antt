use Rattle.xf_views.proofs.Tickets.{leave_keeps}
use Rattle.xf_views.proofs.laws.leave_keeps_turn.Goals as goal

pub returns : goal.returns
returns c = λ most m turn shut. leave_keeps most m.made m.numbers m.owners m.log m.views m.holds m.seat m.view m.there m.here turn shut
