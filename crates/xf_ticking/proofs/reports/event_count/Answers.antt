use Rattle.std.proofs.Common.{ℕ, List, sym, subst}
use Rattle.xf_ticking.specs.Walks.{StatesStood}
use Rattle.xf_ticking.proofs.Tells.{turns_same}
use Rattle.xf_ticking.proofs.reports.event_count.Goals as goal

pub state_event_count-states-requires-clause-turns : goal.state_event_count-states-requires-clause-turns
state_event_count-states-requires-clause-turns g c =
    let one = c.policy_count_here-policies in
    turns_same c.args.layout.now (g.D.Cells.words c.args.parts.now) (g.D.Cells.words one.new.parts) (g.D.Parts.beside c.args.parts.now) (g.D.Parts.beside one.new.parts)
    one.ensures.words one.ensures.beside c.requires.turns

pub state_event_count-states-requires-clause-stood : goal.state_event_count-states-requires-clause-stood
state_event_count-states-requires-clause-stood g c = subst (λ (i : List ℕ). StatesStood c.args.layout.now.states i) (sym c.policy_count_here-policies.ensures.words) c.requires.stood
