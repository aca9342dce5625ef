use Rattle.std.proofs.Common.{ap, sym, ◌∙◌, not, ◌&&◌}
use Rattle.std.specs.Prelude.{None, Some, option_copied}
use Rattle.xf_types.specs.declared.state.Sa.{Sa}
use Rattle.xf_types.specs.StateList.{has_id, is_that, last_of}
use Rattle.xf_held.specs.View.{HeldView}
use Rattle.xf_states.proofs.Founds.{latest_but-found}
use Rattle.xf_states.proofs.table.StateTable.latest_but.Goals as goal

pub returns-in-None : goal.returns-in-None
returns-in-None c =
    latest_but-found c.args.one.now c.args.id.now c.self.inside.held.items c.args.self.now None c.self.view_is
    (sym (ap option_copied c.in-None.is) ∙ c.find_latest_but.ensures
    ∙ ap (last_of (λ (h : HeldView). not (is_that c.args.one.now h.state) && has_id c.args.id.now h.state)) c.deref.ensures.value)

pub returns-in-Some : goal.returns-in-Some
returns-in-Some c =
    ap (λ (s : Sa). Some s) c.state.ensures
    ∙ latest_but-found c.args.one.now c.args.id.now c.self.inside.held.items c.args.self.now (Some c.in-Some.found.now) c.self.view_is
    (sym (ap option_copied c.in-Some.is) ∙ c.find_latest_but.ensures
    ∙ ap (last_of (λ (h : HeldView). not (is_that c.args.one.now h.state) && has_id c.args.id.now h.state)) c.deref.ensures.value)
