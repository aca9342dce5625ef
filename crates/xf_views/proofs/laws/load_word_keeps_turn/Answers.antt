use Rattle.xf_views.proofs.Quiet.{load_keeps}
use Rattle.xf_views.proofs.laws.load_word_keeps_turn.Goals as goal

pub returns : goal.returns
returns c = λ most m place word. load_keeps most m.made m.numbers m.owners m.log m.views m.holds m.seat m.view m.there m.here place word
