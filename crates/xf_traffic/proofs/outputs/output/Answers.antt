use Rattle.std.proofs.Common.{ℕ, List, ap, sym, ◌∙◌, subst, length}
use Rattle.xf_sad.specs.Slots.{listed_in}
use Rattle.xf_rows.specs.Stands.{Stands}
use Rattle.xf_rows.specs.Values.{Beside}
use Rattle.xf_statecalls.proofs.Placed.{places_as, places_same}
use Rattle.xf_traffic.proofs.Followed.{output_missing, others_same}
use Rattle.xf_traffic.proofs.outputs.output.Goals as goal

pub returns-in-None-clause-others : goal.returns-in-None-clause-others
returns-in-None-clause-others g c =
    others_same c.args.layout.now (g.D.Parts.hidden c.args.parts.now) (g.D.Cells.words c.args.parts.now) (g.D.Cells.words c.output_slot_here.new.parts)
    (g.D.Parts.beside c.args.parts.now) (g.D.Parts.beside c.output_slot_here.new.parts) c.output_slot_here.ensures.words c.output_slot_here.ensures.beside

pub returns-in-None-clause-answer : goal.returns-in-None-clause-answer
returns-in-None-clause-answer g c = λ m st.
    output_missing c.args.layout.now (g.D.Cells.words c.args.parts.now) (g.D.Cells.words c.output_slot_here.new.parts) (g.D.Parts.beside c.args.parts.now)
    (g.D.Parts.beside c.output_slot_here.new.parts) m c.args.sid c.args.len st c.in-None.ensures.found c.output_slot_here.ensures.words c.output_slot_here.ensures.beside

pub returns-in-Some-clause-idle : goal.returns-in-Some-clause-idle
returns-in-Some-clause-idle g c = λ lives calm.
    let d = c.output_held.ensures.idle lives calm in record { words = d.words ∙ c.output_slot_here.ensures.words; begun = d.begun ∙ c.output_slot_here.ensures.begun }

pub returns-in-Some-clause-answer : goal.returns-in-Some-clause-answer
returns-in-Some-clause-answer g c = λ m st.
    c.output_held.ensures.answer m
    (subst (λ (b : Beside). Stands c.args.layout.now (g.D.Cells.words c.output_slot_here.new.parts) b m) (sym c.output_slot_here.ensures.beside)
    (subst (λ (w : List ℕ). Stands c.args.layout.now w (g.D.Parts.beside c.args.parts.now) m) (sym c.output_slot_here.ensures.words) st))

pub output_held-requires-clause-held : goal.output_held-requires-clause-held
output_held-requires-clause-held g c = ap (λ (b : Beside). b.held c.in-Some.slot) c.output_slot_here.ensures.beside ∙ c.requires.held c.in-Some.slot

pub returns-in-None-clause-out : goal.returns-in-None-clause-out
returns-in-None-clause-out g c = c.requires.pool.taken ∙ ap (λ (w : List ℕ). length (listed_in c.args.layout.now.states w)) (sym c.output_slot_here.ensures.words)

pub returns-in-None-clause-places : goal.returns-in-None-clause-places
returns-in-None-clause-places g c =
    places_same c.args.layout.now (g.D.Cells.words c.args.parts.now) (g.D.Cells.words c.output_slot_here.new.parts) (g.D.Parts.beside c.args.parts.now) c.requires.stands c.output_slot_here.ensures.words

pub returns-in-Some-clause-places : goal.returns-in-Some-clause-places
returns-in-Some-clause-places g c =
    places_as c.args.layout.now.states (g.D.Cells.words c.args.parts.now) (g.D.Cells.words c.output_slot_here.new.parts) (g.D.Cells.words c.output_held.new.parts)
    (g.D.Parts.beside c.args.parts.now) (g.D.Parts.beside c.output_slot_here.new.parts) c.output_slot_here.ensures.words c.output_slot_here.ensures.beside c.output_held.ensures.places
