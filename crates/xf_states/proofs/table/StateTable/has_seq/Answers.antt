use Rattle.std.proofs.Common.{◌==◌, ap, ◌∙◌}
use Rattle.std.specs.List.{list_any}
use Rattle.xf_types.specs.declared.state.Sa.{Sa}
use Rattle.xf_held.specs.View.{HeldView}
use Rattle.xf_states.proofs.Founds.{any-held}
use Rattle.xf_states.proofs.table.StateTable.has_seq.Goals as goal

pub returns : goal.returns
returns c =
    c.any_has_seq.ensures ∙ ap (list_any (λ (h : HeldView). h.state.spec.seq == c.args.seq)) c.deref.ensures.value
    ∙ any-held (λ (x : Sa). x.spec.seq == c.args.seq) c.self.inside.held.items c.args.self.now c.self.view_is
