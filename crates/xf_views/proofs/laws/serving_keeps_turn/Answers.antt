use Rattle.xf_views.proofs.Tickets.{serving_keeps}
use Rattle.xf_views.proofs.laws.serving_keeps_turn.Goals as goal

pub returns : goal.returns
returns c = λ most m words off. serving_keeps most m.made m.numbers m.owners m.log m.views m.holds m.seat m.view m.there m.here words off
