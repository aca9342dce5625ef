use Rattle.std.proofs.Common.{◌≡◌, ℕ, List, sym, subst}
use Rattle.xf_inexact.specs.Whole.{SpdStands}
use Rattle.xf_ticking.proofs.Quiet.{policies_silent}
use Rattle.xf_ticking.proofs.policies.policy_events_here.Goals as goal

pub returns-then-count-eq0-clause-answer : goal.returns-then-count-eq0-clause-answer
returns-then-count-eq0-clause-answer g c = λ s es st.
    policies_silent c.args.layout.now (g.D.Cells.words c.args.parts.now) c.args.now c.args.count s es c.args.events.now.items c.requires.counts c.if-count-eq0.true st

pub returns-clause-answer : goal.returns-clause-answer
returns-clause-answer g c = λ s es st.
    let j : List ℕ = g.D.Cells.words c.policy_events.new.l in
    let own = g.met.D.Cells.own c.policy_events.new.l in
    let same : j ≡ g.D.Cells.words c.args.parts.now = g.met.D.Cells.only c.args.parts.now j (c.policy_events.ensures.among.among j own) in
    c.policy_events.ensures.answer j s es own (subst (λ (i : List ℕ). SpdStands c.args.layout.now.policies i s es) (sym same) st)
