use Rattle.xf_seats.proofs.JoinRest.{join_keeps_own}
use Rattle.xf_seats.proofs.parts.join_keeps_own.Goals as goal

pub returns : goal.returns
returns g c = λ start settled turns log home views i j v w is. join_keeps_own views i j v w is g.T.Lists.lists start settled turns log home
