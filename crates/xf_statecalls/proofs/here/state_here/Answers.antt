use Rattle.xf_statecalls.proofs.Kept.{answer_kept}
use Rattle.xf_statecalls.proofs.here.state_here.Goals as goal

pub returns-clause-answer : goal.returns-clause-answer
returns-clause-answer g c =
    c.state.ensures.answer (g.D.Cells.words c.args.parts.now)
    (answer_kept _ _ _ _ c.state.ensures.among (g.met.D.Cells.only c.args.parts.now) (g.met.D.Cells.own c.state.new.l))
