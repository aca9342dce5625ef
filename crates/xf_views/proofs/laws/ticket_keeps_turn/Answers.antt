use Rattle.xf_views.proofs.Tickets.{ticket_keeps}
use Rattle.xf_views.proofs.laws.ticket_keeps_turn.Goals as goal

pub returns : goal.returns
returns c = λ most m none room. ticket_keeps most m.made m.numbers m.owners m.log m.views m.holds m.seat m.view m.there m.here none room
