use Rattle.xf_laws.proofs.LocalLemmas.{local_reply, local_shown, local_fate, others_stay}
use Rattle.xf_laws.proofs.laws.one_state.Goals as goal

pub returns : goal.returns
returns c = record { reply = local_reply; shown = local_shown; fate = local_fate; others = others_stay }
