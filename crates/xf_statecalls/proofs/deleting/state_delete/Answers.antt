use Rattle.std.proofs.Common.{ℕ, List, length, ap, sym, ◌∙◌, subst}
use Rattle.xf_types.specs.declared.call.Call.TheVariants.{StateDelete}
use Rattle.xf_types.specs.declared.call.Reply.TheVariants as reply
use Rattle.xf_sadimage.specs.States.{StatesStand}
use Rattle.xf_sad.specs.Slots.{listed_in}
use Rattle.xf_rows.specs.Rows.{entries_in}
use Rattle.xf_rows.specs.Values.{Beside}
use Rattle.xf_statecalls.proofs.Others.{others_none}
use Rattle.xf_statecalls.proofs.Placed.{places_as, places_same}
use Rattle.xf_statecalls.proofs.Replied.{not_deleted, answers_same, stands_same}
use Rattle.xf_statecalls.proofs.deleting.state_delete.Goals as goal

pub state_delete_ready-requires-clause-held : goal.state_delete_ready-requires-clause-held
state_delete_ready-requires-clause-held g c = ap (λ (b : Beside). b.held c.in-Some.slot) c.in-Some.ensures.beside ∙ c.requires.held c.in-Some.slot

pub state_delete_ready-requires-clause-found : goal.state_delete_ready-requires-clause-found
state_delete_ready-requires-clause-found g c = λ s es st.
    c.in-Some.ensures.answer s es (subst (λ (i : List ℕ). StatesStand c.args.layout.now.states i s es) c.in-Some.ensures.words st)

pub returns-in-None-clause-others : goal.returns-in-None-clause-others
returns-in-None-clause-others g c =
    others_none c.args.layout.now (g.D.Parts.hidden c.args.parts.now) (g.D.Cells.words c.args.parts.now) _ (g.D.Parts.beside c.args.parts.now) _ c.in-None.ensures.words c.in-None.ensures.beside

pub returns-in-None-clause-answer : goal.returns-in-None-clause-answer
returns-in-None-clause-answer g c = λ m r.
    answers_same c.args.layout.now (g.D.Cells.words c.args.parts.now) _ (g.D.Parts.beside c.args.parts.now) _ m (StateDelete c.args.id.now) reply.NoState c.in-None.ensures.words c.in-None.ensures.beside
    (not_deleted c.args.layout.now (g.D.Cells.words c.args.parts.now) (g.D.Parts.beside c.args.parts.now) m c.args.id.now r (c.in-None.ensures.answer m.shown (entries_in r.rows) r.on_states))

pub returns-in-Some-clause-answer : goal.returns-in-Some-clause-answer
returns-in-Some-clause-answer g c = λ m r.
    c.state_delete_ready.ensures.answer m
    (stands_same c.args.layout.now (g.D.Cells.words c.args.parts.now) _ (g.D.Parts.beside c.args.parts.now) _ m c.in-Some.ensures.words c.in-Some.ensures.beside r)

pub returns-in-None-clause-out : goal.returns-in-None-clause-out
returns-in-None-clause-out g c = c.requires.pool.taken ∙ ap (λ (w : List ℕ). length (listed_in c.args.layout.now.states w)) (sym c.in-None.ensures.words)

pub returns-in-None-clause-places : goal.returns-in-None-clause-places
returns-in-None-clause-places g c =
    places_same c.args.layout.now (g.D.Cells.words c.args.parts.now) (g.D.Cells.words c.found_here.new.parts) (g.D.Parts.beside c.args.parts.now) c.requires.stands c.in-None.ensures.words

pub returns-in-Some-clause-places : goal.returns-in-Some-clause-places
returns-in-Some-clause-places g c =
    places_as c.args.layout.now.states (g.D.Cells.words c.args.parts.now) (g.D.Cells.words c.found_here.new.parts) (g.D.Cells.words c.state_delete_ready.new.parts)
    (g.D.Parts.beside c.args.parts.now) (g.D.Parts.beside c.found_here.new.parts) c.in-Some.ensures.words c.in-Some.ensures.beside c.state_delete_ready.ensures.places
