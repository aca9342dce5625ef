use Rattle.std.proofs.Common.{ℕ, List, subst}
use Rattle.xf_beside.proofs.cursor.next_slot.Goals as goal

pub returns-clause-answer : goal.returns-clause-answer
returns-clause-answer g c = λ s front back p st.
    c.next_slot.ensures.answer (g.C.Cells.words c.args.c.now) s front back p
    (subst (λ (i : List ℕ). g.C.Load.agrees c.next_slot.new.l i)
    (g.met.C.Cells.only c.args.c.now (g.C.Cells.words c.next_slot.new.l) (c.next_slot.ensures.among.among (g.C.Cells.words c.next_slot.new.l) (g.met.C.Cells.own c.next_slot.new.l)))
    (g.met.C.Cells.own c.next_slot.new.l)) st
