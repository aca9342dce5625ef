use Rattle.xf_late.proofs.Owns.{own-stays, own-comes}
use Rattle.xf_late.proofs.Still.{still-shown, still-left}
use Rattle.xf_late.proofs.laws.receipts.Goals as goal

pub returns : goal.returns
returns c = record { stays = own-stays; comes = own-comes; shown = still-shown; left = still-left }
