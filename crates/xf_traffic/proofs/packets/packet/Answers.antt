use Rattle.std.proofs.Common.{ℕ, List, sym, ◌∙◌, subst, length, ap}
use Rattle.xf_sad.specs.Slots.{listed_in}
use Rattle.xf_rows.specs.Stands.{Stands}
use Rattle.xf_rows.specs.Values.{Beside}
use Rattle.xf_statecalls.proofs.Placed.{places_as, places_same}
use Rattle.xf_traffic.proofs.Followed.{packet_missing, others_same}
use Rattle.xf_traffic.proofs.packets.packet.Goals as goal

pub returns-in-None-clause-others : goal.returns-in-None-clause-others
returns-in-None-clause-others g c =
    others_same c.args.layout.now (g.D.Parts.hidden c.args.parts.now) (g.D.Cells.words c.args.parts.now) (g.D.Cells.words c.packet_slot_here.new.parts)
    (g.D.Parts.beside c.args.parts.now) (g.D.Parts.beside c.packet_slot_here.new.parts) c.packet_slot_here.ensures.words c.packet_slot_here.ensures.beside

pub returns-in-None-clause-answer : goal.returns-in-None-clause-answer
returns-in-None-clause-answer g c = λ m st.
    packet_missing c.args.layout.now (g.D.Cells.words c.args.parts.now) (g.D.Cells.words c.packet_slot_here.new.parts) (g.D.Parts.beside c.args.parts.now)
    (g.D.Parts.beside c.packet_slot_here.new.parts) m c.args.packet.now st c.in-None.ensures.found c.packet_slot_here.ensures.words c.packet_slot_here.ensures.beside

pub returns-in-Some-clause-idle : goal.returns-in-Some-clause-idle
returns-in-Some-clause-idle g c = λ lives calm.
    let d = c.packet_held.ensures.idle lives calm in record { words = d.words ∙ c.packet_slot_here.ensures.words; begun = d.begun ∙ c.packet_slot_here.ensures.begun }

pub returns-in-Some-clause-answer : goal.returns-in-Some-clause-answer
returns-in-Some-clause-answer g c = λ m st.
    c.packet_held.ensures.answer m
    (subst (λ (b : Beside). Stands c.args.layout.now (g.D.Cells.words c.packet_slot_here.new.parts) b m) (sym c.packet_slot_here.ensures.beside)
    (subst (λ (w : List ℕ). Stands c.args.layout.now w (g.D.Parts.beside c.args.parts.now) m) (sym c.packet_slot_here.ensures.words) st))

pub returns-in-None-clause-out : goal.returns-in-None-clause-out
returns-in-None-clause-out g c = c.requires.pool.taken ∙ ap (λ (w : List ℕ). length (listed_in c.args.layout.now.states w)) (sym c.packet_slot_here.ensures.words)

pub returns-in-None-clause-places : goal.returns-in-None-clause-places
returns-in-None-clause-places g c =
    places_same c.args.layout.now (g.D.Cells.words c.args.parts.now) (g.D.Cells.words c.packet_slot_here.new.parts) (g.D.Parts.beside c.args.parts.now) c.requires.stands c.packet_slot_here.ensures.words

pub returns-in-Some-clause-places : goal.returns-in-Some-clause-places
returns-in-Some-clause-places g c =
    places_as c.args.layout.now.states (g.D.Cells.words c.args.parts.now) (g.D.Cells.words c.packet_slot_here.new.parts) (g.D.Cells.words c.packet_held.new.parts)
    (g.D.Parts.beside c.args.parts.now) (g.D.Parts.beside c.packet_slot_here.new.parts) c.packet_slot_here.ensures.words c.packet_slot_here.ensures.beside c.packet_held.ensures.places
