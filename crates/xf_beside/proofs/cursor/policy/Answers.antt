use Rattle.std.proofs.Common.{ℕ, List, subst}
use Rattle.xf_beside.proofs.cursor.policy.Goals as goal

pub returns-clause-answer : goal.returns-clause-answer
returns-clause-answer g c = λ s front back p st.
    c.policy.ensures.answer (g.C.Cells.words c.args.c.now) s front back p
    (subst (λ (i : List ℕ). g.C.Load.agrees c.policy.new.l i)
    (g.met.C.Cells.only c.args.c.now (g.C.Cells.words c.policy.new.l) (c.policy.ensures.among.among (g.C.Cells.words c.policy.new.l) (g.met.C.Cells.own c.policy.new.l)))
    (g.met.C.Cells.own c.policy.new.l)) st
