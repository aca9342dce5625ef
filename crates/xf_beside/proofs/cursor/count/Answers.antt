use Rattle.std.proofs.Common.{ℕ, List, subst}
use Rattle.xf_beside.proofs.cursor.count.Goals as goal

pub returns-clause-answer : goal.returns-clause-answer
returns-clause-answer g c = λ s es room st.
    c.count.ensures.answer (g.C.Cells.words c.args.c.now) s es
    (subst (λ (i : List ℕ). g.C.Load.agrees c.count.new.l i)
    (g.met.C.Cells.only c.args.c.now (g.C.Cells.words c.count.new.l) (c.count.ensures.among.among (g.C.Cells.words c.count.new.l) (g.met.C.Cells.own c.count.new.l)))
    (g.met.C.Cells.own c.count.new.l)) room st
