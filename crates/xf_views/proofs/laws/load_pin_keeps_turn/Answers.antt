use Rattle.xf_views.proofs.Quiet.{load_pin_keeps}
use Rattle.xf_views.proofs.laws.load_pin_keeps_turn.Goals as goal

pub returns : goal.returns
returns c = λ most m k pin. load_pin_keeps most m.made m.numbers m.owners m.log m.views m.holds m.seat m.view m.there m.here k pin
