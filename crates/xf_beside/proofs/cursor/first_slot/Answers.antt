use Rattle.std.proofs.Common.{ℕ, List, subst}
use Rattle.xf_beside.proofs.cursor.first_slot.Goals as goal

pub returns-clause-answer : goal.returns-clause-answer
returns-clause-answer g c = λ s es st.
    c.first_slot.ensures.answer (g.C.Cells.words c.args.c.now) s es
    (subst (λ (i : List ℕ). g.C.Load.agrees c.first_slot.new.l i)
    (g.met.C.Cells.only c.args.c.now (g.C.Cells.words c.first_slot.new.l) (c.first_slot.ensures.among.among (g.C.Cells.words c.first_slot.new.l) (g.met.C.Cells.own c.first_slot.new.l)))
    (g.met.C.Cells.own c.first_slot.new.l)) st
