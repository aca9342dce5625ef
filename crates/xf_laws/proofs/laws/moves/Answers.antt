use Rattle.xf_laws.proofs.MoveLemmas.{call-moved}
use Rattle.xf_laws.proofs.FoldLemmas.{history-folded}
use Rattle.xf_laws.proofs.laws.moves.Goals as goal

pub returns : goal.returns
returns c = record { moved = call-moved; folded = history-folded }
