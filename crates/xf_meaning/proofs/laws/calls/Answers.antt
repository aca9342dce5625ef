use Rattle.xf_meaning.proofs.Calling.{known, kept, move_honest, still_honest}
use Rattle.xf_meaning.proofs.Moving.{move_leads, moved_known, moved_values, touched_known, touched_values}
use Rattle.xf_meaning.proofs.laws.calls.Goals as goal

pub returns : goal.returns
returns c = record {
  known = known;
  keeps = kept;
  moving = move_honest;
  leads = move_leads;
  still = still_honest;
  moved = moved_known;
  moved_values = moved_values;
  touched = touched_known;
  touched_values = touched_values;
}
