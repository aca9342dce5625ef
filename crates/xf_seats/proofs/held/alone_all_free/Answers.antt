use Rattle.xf_seats.proofs.Holders.{alone_all_free}
use Rattle.xf_seats.proofs.held.alone_all_free.Goals as goal

pub returns : goal.returns
returns c = λ turns views i v is alone none g. alone_all_free turns views i v is g alone none
