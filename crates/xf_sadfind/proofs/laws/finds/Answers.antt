use Rattle.std.proofs.Common.{refl}
use Rattle.xf_sadfind.proofs.Besides.{larval_record}
use Rattle.xf_sadfind.proofs.Wanted.{wanted_at}
use Rattle.xf_sadfind.proofs.laws.finds.Goals as goal

pub returns : goal.returns
returns c = record { replaced = larval_record; adds = λ s spec. refl; wanted = wanted_at }
