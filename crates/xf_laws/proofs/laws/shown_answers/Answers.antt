use Rattle.std.proofs.Common.{refl}
use Rattle.xf_laws.proofs.LocalLemmas.{applied-shown}
use Rattle.xf_laws.proofs.laws.shown_answers.Goals as goal

pub returns : goal.returns
returns c = record { reply = λ s a b r. refl; shown = λ m r. applied-shown m r.change }
