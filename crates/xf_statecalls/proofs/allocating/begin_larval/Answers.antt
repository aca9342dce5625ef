use Rattle.std.proofs.Common.{ℕ, List, ap, ◌∙◌, subst}
use Rattle.xf_types.specs.declared.call.Reply.TheVariants as reply
use Rattle.xf_types.specs.declared.state.Sa.{Sa}
use Rattle.xf_image.specs.Frames.{Frame}
use Rattle.xf_sadidx.specs.Layout.{record_at}
use Rattle.xf_rows.specs.Values.{Beside, value_put}
use Rattle.xf_statecalls.specs.Windows.{value_of_new}
use Rattle.xf_statecalls.proofs.Standing.{some_same, none_same}
use Rattle.xf_statecalls.proofs.allocating.begin_larval.Goals as goal

pub unreachable-requires : goal.unreachable-requires
unreachable-requires g c = none_same c.requires.larval.state (record_at c.args.layout.now.states (g.D.Cells.words c.args.parts.now) c.args.slot) c.in-None.ensures.answer c.requires.larval.record_is

pub larval_window-window-requires-clause-window : goal.larval_window-window-requires-clause-window
larval_window-window-requires-clause-window g c =
    ap (λ (s : Sa). s.spec.window)
    (some_same c.in-Some.state c.requires.larval.state (record_at c.args.layout.now.states (g.D.Cells.words c.args.parts.now) c.args.slot) c.in-Some.ensures.answer c.requires.larval.record_is)
    ∙ c.requires.larval.window

pub larval_window-window-requires-clause-start : goal.larval_window-window-requires-clause-start
larval_window-window-requires-clause-start g c =
    ap (λ (s : Sa). s.spec.in_seq)
    (some_same c.in-Some.state c.requires.larval.state (record_at c.args.layout.now.states (g.D.Cells.words c.args.parts.now) c.args.slot) c.in-Some.ensures.answer c.requires.larval.record_is)
    ∙ c.requires.larval.start

pub returns-clause-frame : goal.returns-clause-frame
returns-clause-frame g c =
    subst (λ (n : ℕ). Frame 0 n (g.D.Cells.words c.args.parts.now) (g.D.Cells.words c.turn_values.new.parts)) c.in-Some.ensures.hidden
    (subst (λ (i : List ℕ). Frame 0 (g.D.Parts.hidden c.state_here.new.parts) i (g.D.Cells.words c.turn_values.new.parts)) c.in-Some.ensures.words c.turn_values.ensures.frame)

pub returns-clause-told : goal.returns-clause-told
returns-clause-told g c = λ r is.
    ap (λ (s : Sa). reply.DoneSpi s.spec.spi s.sid) (some_same c.in-Some.state r (record_at c.args.layout.now.states (g.D.Cells.words c.args.parts.now) c.args.slot) c.in-Some.ensures.answer is)

pub returns-clause-beside : goal.returns-clause-beside
returns-clause-beside g c = λ r is.
    c.turn_values.ensures.beside ∙ ap (λ (b : Beside). value_put b c.args.slot (value_of_new c.in-Some.state)) c.in-Some.ensures.beside
    ∙ ap (λ (s : Sa). value_put (g.D.Parts.beside c.args.parts.now) c.args.slot (value_of_new s)) (some_same c.in-Some.state r (record_at c.args.layout.now.states (g.D.Cells.words c.args.parts.now) c.args.slot) c.in-Some.ensures.answer is)
