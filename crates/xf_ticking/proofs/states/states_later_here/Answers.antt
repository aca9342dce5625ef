use Rattle.xf_ticking.proofs.Quiet.{states_quiet}
use Rattle.xf_ticking.proofs.states.states_later_here.Goals as goal

pub returns-then-count-eq0-clause-later : goal.returns-then-count-eq0-clause-later
returns-then-count-eq0-clause-later g c = λ s es st.
    states_quiet c.args.layout.now (g.D.Cells.words c.args.parts.now) (g.D.Parts.beside c.args.parts.now) c.args.now c.args.count s es c.requires.counts c.if-count-eq0.true st
