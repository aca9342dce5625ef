use Rattle.std.proofs.Common.{◌≡◌, ℕ, List, [], ◌++◌, ap, sym, ◌∙◌, subst}
use Rattle.std.specs.Prelude.{filter_map}
use Rattle.xf_types.specs.declared.call.Event.{Event}
use Rattle.xf_types.specs.TickRules.{policy_event, state_event, with_own}
use Rattle.xf_rows.specs.Values.{Beside}
use Rattle.xf_rows.specs.Stands.{Stands}
use Rattle.xf_ticking.specs.Walks.{StatesStood}
use Rattle.xf_ticking.proofs.Tells.{turns_same}
use Rattle.xf_ticking.proofs.reports.events_at.Goals as goal

pub state_events_here-requires-clause-turns : goal.state_events_here-requires-clause-turns
state_events_here-requires-clause-turns g c =
    turns_same c.args.layout.now (g.D.Cells.words c.args.parts.now) (g.D.Cells.words c.policy_events_here.new.parts) (g.D.Parts.beside c.args.parts.now)
    (g.D.Parts.beside c.policy_events_here.new.parts) c.policy_events_here.ensures.words c.policy_events_here.ensures.beside c.requires.turns

pub state_events_here-requires-clause-stood : goal.state_events_here-requires-clause-stood
state_events_here-requires-clause-stood g c = subst (λ (i : List ℕ). StatesStood c.args.layout.now.states i) (sym c.policy_events_here.ensures.words) c.requires.stood

pub returns-clause-answer : goal.returns-clause-answer
returns-clause-answer g c = λ m r.
    let layout = c.args.layout.now in
    let told = c.policy_events_here in
    let first : told.new.events.items ≡ [] ++ filter_map (policy_event c.args.now) m.shown.policies =
    c.in_ok-policy_events_here.ensures.answer m.shown r.policies r.on_policies
    ∙ ap (λ (es : List Event). es ++ filter_map (policy_event c.args.now) m.shown.policies) c.in-Ok.ensures.items in
    c.in_ok-state_events_here.ensures.answer m
    (subst (λ (i : List ℕ). Stands layout i (g.D.Parts.beside told.new.parts) m) (sym told.ensures.words)
    (subst (λ (b : Beside). Stands layout (g.D.Cells.words c.args.parts.now) b m) (sym told.ensures.beside) r))
    ∙ ap (λ (es : List Event). es ++ filter_map (state_event c.args.now) (with_own m)) first
