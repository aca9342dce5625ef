use Rattle.std.proofs.Common.{ℕ, List, subst}
use Rattle.xf_beside.proofs.cursor.first.Goals as goal

pub returns-clause-answer : goal.returns-clause-answer
returns-clause-answer g c = λ s es order st.
    c.first.ensures.answer (g.C.Cells.words c.args.c.now) s es
    (subst (λ (i : List ℕ). g.C.Load.agrees c.first.new.l i)
    (g.met.C.Cells.only c.args.c.now (g.C.Cells.words c.first.new.l) (c.first.ensures.among.among (g.C.Cells.words c.first.new.l) (g.met.C.Cells.own c.first.new.l)))
    (g.met.C.Cells.own c.first.new.l)) order st
