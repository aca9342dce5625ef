use Rattle.xf_rows.specs.Rows.{entries_in}
use Rattle.xf_statecalls.proofs.Come.{young_is, young_word}
use Rattle.xf_statecalls.proofs.laws.conditions.Goals as goal

pub returns : goal.returns
returns c = record {
  stood = λ layout i b m r. record { machine = m; stands = r };
  young = λ layout i b m r l. young_word layout.states i m.shown (entries_in r.rows) r.on_states l;
  ids = λ layout i b m r l. young_is layout.states i m.shown (entries_in r.rows) r.on_states l;
}
