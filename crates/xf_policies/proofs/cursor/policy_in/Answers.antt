use Rattle.xf_listing.proofs.Loading.{answer_kept}
use Rattle.xf_policies.proofs.cursor.policy_in.Goals as goal

pub returns-clause-answer : goal.returns-clause-answer
returns-clause-answer g c = λ s front back p st.
    c.policy.ensures.answer (g.C.Cells.words c.args.c.now) s front back p
    (answer_kept _ _ _ _ c.policy.ensures.among (g.met.C.Cells.only c.args.c.now) (g.met.C.Cells.own c.policy.new.l)) st
