use Rattle.xf_statecalls.proofs.Kept.{answer_kept}
use Rattle.xf_traffic.proofs.flows.ask_here.Goals as goal

pub returns-clause-answer : goal.returns-clause-answer
returns-clause-answer g c = λ s policies entries order on_policies st.
    c.ask.ensures.answer (g.D.Cells.words c.args.parts.now) s policies entries
    (answer_kept _ _ _ _ c.ask.ensures.among (g.met.D.Cells.only c.args.parts.now) (g.met.D.Cells.own c.ask.new.l)) order on_policies st
