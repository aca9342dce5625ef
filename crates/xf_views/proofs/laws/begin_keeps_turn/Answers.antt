use Rattle.xf_views.proofs.Openings.{begin_keeps}
use Rattle.xf_views.proofs.laws.begin_keeps_turn.Goals as goal

pub returns : goal.returns
returns c = λ most m turn shut. begin_keeps most m.made m.numbers m.owners m.log m.views m.holds m.seat m.view m.there m.here turn shut
