use Rattle.std.proofs.Common.{◌≡◌, ℕ, List, ◌∙◌}
use Rattle.xf_rows.specs.Values.{Beside}
use Rattle.xf_ticking.proofs.Passed.{outside_none, states_stood_here, stands_same, ticked}
use Rattle.xf_ticking.proofs.Tells.{turns_same}
use Rattle.xf_ticking.proofs.ticking.tick.Goals as goal

pub event_count-count-requires-clause-turns : goal.event_count-count-requires-clause-turns
event_count-count-requires-clause-turns g c =
    turns_same c.args.layout.now (g.D.Cells.words c.args.parts.now) (g.D.Cells.words c.time_here.new.parts) (g.D.Parts.beside c.args.parts.now) (g.D.Parts.beside c.time_here.new.parts)
    c.time_here.ensures.words c.time_here.ensures.beside c.requires.ready.turns

pub event_count-count-requires-clause-stood : goal.event_count-count-requires-clause-stood
event_count-count-requires-clause-stood g c =
    states_stood_here c.args.layout.now (g.D.Cells.words c.args.parts.now) (g.D.Cells.words c.time_here.new.parts) (g.D.Parts.beside c.args.parts.now) c.time_here.ensures.words c.requires.stands

pub events_at-requires-clause-turns : goal.events_at-requires-clause-turns
events_at-requires-clause-turns g c =
    turns_same c.args.layout.now (g.D.Cells.words c.args.parts.now) (g.D.Cells.words c.event_count-count.new.parts) (g.D.Parts.beside c.args.parts.now)
    (g.D.Parts.beside c.event_count-count.new.parts) (c.event_count-count.ensures.words ∙ c.time_here.ensures.words)
    (c.event_count-count.ensures.beside ∙ c.time_here.ensures.beside) c.requires.ready.turns

pub events_at-requires-clause-stood : goal.events_at-requires-clause-stood
events_at-requires-clause-stood g c =
    states_stood_here c.args.layout.now (g.D.Cells.words c.args.parts.now) (g.D.Cells.words c.event_count-count.new.parts) (g.D.Parts.beside c.args.parts.now)
    (c.event_count-count.ensures.words ∙ c.time_here.ensures.words) c.requires.stands

pub returns-in-Err-clause-outside : goal.returns-in-Err-clause-outside
returns-in-Err-clause-outside g c =
    outside_none c.args.layout.now (g.D.Parts.hidden c.args.parts.now) (g.D.Cells.words c.args.parts.now) (g.D.Cells.words c.events_at.new.parts)
    (g.D.Parts.beside c.args.parts.now) (g.D.Parts.beside c.events_at.new.parts)
    (c.events_at.ensures.words ∙ (c.event_count-count.ensures.words ∙ c.time_here.ensures.words))
    (c.events_at.ensures.beside ∙ (c.event_count-count.ensures.beside ∙ c.time_here.ensures.beside))

pub returns-in-Ok-clause-answer : goal.returns-in-Ok-clause-answer
returns-in-Ok-clause-answer g c = λ m r.
    let layout = c.args.layout.now in
    let i : List ℕ = g.D.Cells.words c.args.parts.now in
    let b : Beside = g.D.Parts.beside c.args.parts.now in
    let w : g.D.Cells.words c.event_count-count.new.parts ≡ i = c.event_count-count.ensures.words ∙ c.time_here.ensures.words in
    let v : g.D.Parts.beside c.event_count-count.new.parts ≡ b = c.event_count-count.ensures.beside ∙ c.time_here.ensures.beside in
    ticked layout (g.D.Cells.words c.pass_to.new.parts) (g.D.Parts.beside c.pass_to.new.parts) m c.args.given c.time_here.result c.max-now.result c.new.result c.max-now.ensures
    (c.time_here.ensures.answer ∙ r.time)
    (c.new.ensures ∙ c.in-Ok.ensures.answer m (stands_same layout i (g.D.Cells.words c.event_count-count.new.parts) b (g.D.Parts.beside c.event_count-count.new.parts) m w v r))
    (c.pass_to.ensures.stands m
    (stands_same layout i (g.D.Cells.words c.events_at.new.parts) b (g.D.Parts.beside c.events_at.new.parts) m (c.events_at.ensures.words ∙ w) (c.events_at.ensures.beside ∙ v) r))
