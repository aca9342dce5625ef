use Rattle.xf_seats.proofs.Pinned.{split_keeps_pins}
use Rattle.xf_seats.proofs.parts.split_keeps_pins.Goals as goal

pub returns : goal.returns
returns g c = λ policies slots generation words settled pins views i v is word p. split_keeps_pins policies slots g.T.Means.id_place generation words settled pins views i v is p word
