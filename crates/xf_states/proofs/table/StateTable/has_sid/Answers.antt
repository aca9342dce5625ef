use Rattle.std.proofs.Common.{ap, ◌∙◌}
use Rattle.std.specs.List.{list_any}
use Rattle.xf_types.specs.StateList.{has_sid}
use Rattle.xf_held.specs.View.{HeldView}
use Rattle.xf_states.proofs.Founds.{any-held}
use Rattle.xf_states.proofs.table.StateTable.has_sid.Goals as goal

pub returns : goal.returns
returns c =
    c.any_has_sid.ensures ∙ ap (list_any (λ (h : HeldView). has_sid c.args.sid h.state)) c.deref.ensures.value
    ∙ any-held (has_sid c.args.sid) c.self.inside.held.items c.args.self.now c.self.view_is
