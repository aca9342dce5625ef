use Rattle.xf_views.proofs.Quiet.{store_keeps}
use Rattle.xf_views.proofs.laws.store_keeps_turn.Goals as goal

pub returns : goal.returns
returns c = λ most m slots place word. store_keeps most m.made m.numbers m.owners m.log m.views m.holds m.seat m.view m.there m.here slots place word
