use Rattle.xf_listing.proofs.Loading.{answer_kept}
use Rattle.xf_policies.proofs.cursor.next_slot.Goals as goal

pub returns-clause-answer : goal.returns-clause-answer
returns-clause-answer g c = λ s front back p st.
    c.next_slot.ensures.answer (g.C.Cells.words c.args.c.now) s front back p
    (answer_kept _ _ _ _ c.next_slot.ensures.among (g.met.C.Cells.only c.args.c.now) (g.met.C.Cells.own c.next_slot.new.l)) st
