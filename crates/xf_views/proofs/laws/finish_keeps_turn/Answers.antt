use Rattle.xf_views.proofs.Openings.{finish_keeps}
use Rattle.xf_views.proofs.laws.finish_keeps_turn.Goals as goal

pub returns : goal.returns
returns c = λ most m opens drew. finish_keeps most m.made m.numbers m.owners m.log m.views m.holds m.seat m.view m.there m.here opens drew
