use Rattle.xf_rows.proofs.Telling.{answers, excused, full_policies, full_states}
use Rattle.xf_rows.proofs.laws.replies.Goals as goal

pub returns : goal.returns
returns c = record { plain = answers; excused = excused; full_policies = full_policies; full_states = full_states }
