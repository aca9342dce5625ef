use Rattle.std.proofs.Common.{refl, sym, ◌∙◌}
use Rattle.xf_types.specs.declared.call.Call.TheVariants.{StateAdd}
use Rattle.xf_types.specs.declared.call.Reply.TheVariants as reply
use Rattle.xf_sadfind.specs.Replaced.{in_the_way}
use Rattle.xf_sad.proofs.Rules.{add_exists}
use Rattle.xf_rows.specs.Rows.{entries_in}
use Rattle.xf_rows.proofs.Telling.{excused}
use Rattle.xf_statecalls.proofs.Refused.{refusal}
use Rattle.xf_statecalls.proofs.Replied.{stands_same}
use Rattle.xf_statecalls.proofs.adding.without_window.Goals as goal

pub returns-in-None-clause-same : goal.returns-in-None-clause-same
returns-in-None-clause-same g c = record { words = c.in-None.ensures.words; values = c.in-None.ensures.beside; begun = c.in-None.ensures.begun }

pub returns-in-None-clause-answer : goal.returns-in-None-clause-answer
returns-in-None-clause-answer g c = λ m r.
    excused c.args.layout.now _ _ m (StateAdd c.args.spec.now) reply.NoMemory refl tt
    (stands_same c.args.layout.now (g.D.Cells.words c.args.parts.now) _ (g.D.Parts.beside c.args.parts.now) _ m c.in-None.ensures.words c.in-None.ensures.beside r)

pub returns-in-Some-clause-same : goal.returns-in-Some-clause-same
returns-in-Some-clause-same g c = record { words = c.in-Some.ensures.words; values = c.in-Some.ensures.beside; begun = c.in-Some.ensures.begun }

pub returns-in-Some-clause-answer : goal.returns-in-Some-clause-answer
returns-in-Some-clause-answer g c = λ m r.
    let a = c.args.layout.now in
    let i = g.D.Cells.words c.args.parts.now in
    refusal a _ _ m (StateAdd c.args.spec.now) (reply.StateExists c.in-Some.sid) refl
    (add_exists m.shown c.args.spec.now c.in-Some.sid (in_the_way m.shown.states c.args.spec.now) refl
    (sym (c.in-Some.ensures.answer m.shown (entries_in r.rows) r.on_states (c.requires.found m.shown (entries_in r.rows) r.on_states))))
    (stands_same a i _ (g.D.Parts.beside c.args.parts.now) _ m c.in-Some.ensures.words c.in-Some.ensures.beside r)
