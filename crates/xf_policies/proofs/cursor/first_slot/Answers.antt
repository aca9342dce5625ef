use Rattle.xf_listing.proofs.Loading.{answer_kept}
use Rattle.xf_policies.proofs.cursor.first_slot.Goals as goal

pub returns-clause-answer : goal.returns-clause-answer
returns-clause-answer g c = λ s es st.
    c.first_slot.ensures.answer (g.C.Cells.words c.args.c.now) s es
    (answer_kept _ _ _ _ c.first_slot.ensures.among (g.met.C.Cells.only c.args.c.now) (g.met.C.Cells.own c.first_slot.new.l)) st
