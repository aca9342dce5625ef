use Rattle.std.proofs.Common.{◌≡◌, ◌++◌, ap, ◌∙◌, subst, List}
use Rattle.std.specs.Prelude.{OnOk, filter_map}
use Rattle.xf_types.specs.declared.call.Event.{Event}
use Rattle.xf_types.specs.TickRules.{state_event}
use Rattle.xf_held.specs.View.{HeldView}
use Rattle.xf_states.specs.Table.{pair_of}
use Rattle.xf_states.proofs.Ages.{reported-held}
use Rattle.xf_states.proofs.table.StateTable.report.Goals as goal

pub returns : goal.returns
returns c =
    subst (λ (es : List Event). OnOk c.report_held.result (c.report_held.new.events.items ≡ c.args.events.now.items ++ es))
    (ap (filter_map (λ (h : HeldView). state_event c.args.now (pair_of h))) c.deref.ensures.value
    ∙ reported-held c.args.now c.self.inside.held.items c.args.self.now c.self.view_is)
    c.report_held.ensures
