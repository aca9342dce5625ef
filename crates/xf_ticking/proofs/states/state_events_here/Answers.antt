use Rattle.std.proofs.Common.{sym, ◌∙◌}
use Rattle.std.specs.Prelude.{filter_map}
use Rattle.xf_types.specs.TickRules.{state_event, with_own}
use Rattle.xf_rows.specs.Rows.{entries_in}
use Rattle.xf_rows.specs.Values.{Beside}
use Rattle.xf_rows.proofs.Later.{events_are}
use Rattle.xf_ticking.proofs.Tells.{turns_are}
use Rattle.xf_ticking.proofs.Quiet.{states_silent, nothing_behind}
use Rattle.xf_ticking.proofs.states.state_events_here.Goals as goal

pub returns-then-count-eq0-clause-answer : goal.returns-then-count-eq0-clause-answer
returns-then-count-eq0-clause-answer g c = λ m r.
    let layout = c.args.layout.now in
    let b : Beside = g.D.Parts.beside c.args.parts.now in
    nothing_behind c.args.events.now.items (filter_map (state_event c.args.now) (with_own m))
    (sym (events_are layout (g.D.Cells.words c.args.parts.now) b m c.args.now r
    (turns_are layout (g.D.Cells.words c.args.parts.now) b m.shown (entries_in r.rows) r.on_states c.requires.turns))
    ∙ states_silent layout (g.D.Cells.words c.args.parts.now) b c.args.now c.args.count m.shown (entries_in r.rows) c.requires.counts c.if-count-eq0.true r.on_states)
