use Rattle.xf_seats.proofs.SplitRest.{split_keeps_own}
use Rattle.xf_seats.proofs.parts.split_keeps_own.Goals as goal

pub returns : goal.returns
returns g c = λ start settled turns log home views i v is. split_keeps_own views i v is g.T.Lists.lists start settled turns log home
