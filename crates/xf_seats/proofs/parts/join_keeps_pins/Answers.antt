use Rattle.xf_seats.proofs.Pinned.{join_keeps_pins}
use Rattle.xf_seats.proofs.parts.join_keeps_pins.Goals as goal

pub returns : goal.returns
returns g c = λ policies slots generation words settled pins views i j v w is p. join_keeps_pins policies slots g.T.Means.id_place generation words settled pins views i v is p j w
